-- What a reader of a dump knows of its variables, by the changes up to a state, or in it.
use Rattle.std.proofs.Common.{◌≡◌, ℕ, ◌+◌, ◌*◌, ◌<◌, ◌≤◌, Bool, true, false, cond, eqb, leb, ◌⊎◌, inl, inr, Option, Some, None, List, [], ◌∷◌, length, filter, map, refl, sym, ap, subst, ◌∙◌, arith}
use Rattle.std.proofs.lemmas.Bool.{le-leb, leb-true, leb-false, eq-eqb, ne_eqb, eqb-true, eqb-false, cases_Bool, false≢true}
use Rattle.std.proofs.Math.Nat.{mul-le-mul_left, le_of_mul-le-mul_left}
use Rattle.kc_base.specs.TextLines.{text_lines}
use Rattle.kc_base.specs.declared.types.Level.{Level}
use Rattle.kc_trace.specs.declared.life.Signal.{Signal}
use Rattle.kc_trace.specs.declared.life.Signal.TheVariants.{Output, Input}
use Rattle.kc_trace.specs.Signals.{same_signal}
use Rattle.kc_events.specs.Steps.{Seen}
use Rattle.kc_vcd.specs.declared.change.Change.{Change}
use Rattle.kc_vcd.specs.declared.change.Change.TheVariants.{Moves, Takes, Happens, Unseen}
use Rattle.kc_vcd.specs.declared.variable.Variable.{Variable}
use Rattle.kc_vcd.specs.declared.variable.Variable.TheVariants.{Wire, Analog, Entry, Transfer, Undefined, Life}
use Rattle.kc_vcd.specs.Variables.{name_of, code_of, number_of}
use Rattle.kc_vcd.specs.Changes.{Timed}
use Rattle.kc_vcd.specs.Dump.{Shown, texts, dump_of}
use Rattle.kc_vcd.specs.Reader.{code_in, is_up_to, is_now, level_by, value_by, count_by, level_with, value_with, count_with, read_at}
use Rattle.kc_vcd.specs.Laws.{IsKnown, IsEvent, AllKnown, Member, IsSound, changes_of, changes_to, changes_in, level_behind, value_behind, is_happening, count_among, DumpsShowChanges}
use Rattle.kc_vcd.proofs.Readings.{up_to-if, at-if, applied, applied-append}
use Rattle.kc_vcd.proofs.Described.{start_change, starts, code_found, dump_read}
use Rattle.kc_vcd.proofs.Readers.{level_effect, reads_levels, value_effect, reads_values, count_effect, reads_counts}

-- ---- times are in the order of states

up_to_state : (m t at : ℕ) → 0 < m → is_up_to (m * t) (Some (m * at)) ≡ leb at t
up_to_state m t at some = by_test (leb (m * at) (m * t)) refl
  where
    by_test : (b : Bool) → leb (m * at) (m * t) ≡ b → b ≡ leb at t
    by_test true e = sym (le-leb at t (le_of_mul-le-mul_left (leb-true (m * at) (m * t) e) some))
    by_test false e = elim (cases_Bool (leb at t)) [
      | inl on ↦ let above = leb-false (m * at) (m * t) e in let below = mul-le-mul_left m (leb-true at t on) in absurd (omega (arith, above, below))
      | inr off ↦ sym off
    ]

at_state : (m t at : ℕ) → 0 < m → is_now (m * t) (Some (m * at)) ≡ eqb at t
at_state m t at some = by_test (eqb at t) refl
  where
    by_test : (b : Bool) → eqb at t ≡ b → eqb (m * at) (m * t) ≡ b
    by_test true e = eq-eqb (m * at) (m * t) (ap (λ k. m * k) (eqb-true at t e))
    by_test false e = ne_eqb (m * at) (m * t) (λ same.
        let low : m * at ≤ m * t = omega (arith, same) in
        let high : m * t ≤ m * at = omega (arith, same) in
        let a = le_of_mul-le-mul_left low some in
        let b = le_of_mul-le-mul_left high some in
        eqb-false at t e (omega (arith, a, b)))

-- ---- changes one after the other

abbrev done : {A : Type 0} → (Change → A → A) → A → List Change → A
done effect a [] = a
done effect a (c ∷ changes) = done effect (effect c a) changes

applied_done : {A : Type 0} (wanted test : ℕ → Bool) (effect : Change → A → A) (a : A) (changes : List Timed) → ((at : ℕ) → wanted at ≡ test at) →
    applied wanted effect a changes ≡ done effect a (map (λ c. c.change) (filter (λ c. test c.at) changes))
applied_done {A = A} wanted test effect a [] same = refl
applied_done {A = A} wanted test effect a (c ∷ changes) same =
    ap (λ b. applied wanted effect (cond b (effect c.change a) a) changes) (same c.at)
    ∙ by_test (test c.at) (λ k. applied_done wanted test effect k changes same)
  where
    by_test : (b : Bool) → ((k : A) → applied wanted effect k changes ≡ done effect k (map (λ x. x.change) (filter (λ x. test x.at) changes))) →
        applied wanted effect (cond b (effect c.change a) a) changes ≡ done effect a (map (λ x. x.change) (cond b (c ∷ filter (λ x. test x.at) changes) (filter (λ x. test x.at) changes)))
    by_test true rest = rest (effect c.change a)
    by_test false rest = rest a

member_known : (v : Variable) (vs : List Variable) → AllKnown vs → Member v vs → IsKnown v
member_known v [] all there = absurd there
member_known v (w ∷ ws) all (inl same) = subst IsKnown same all.0
member_known v (w ∷ ws) all (inr there) = member_known v ws all.1 there

-- where a variable is among others and is not the first one, it is behind it
pub passed : {P M : Type 0} {v w : Variable} → P ⊎ ((w ≡ v) ⊎ M) → (w ≡ v → ⊥) → P ⊎ M
passed (inl is) other = inl is
passed (inr (inl same)) other = absurd (other same)
passed (inr (inr there)) other = inr there

-- ---- levels

levels_done : (signal : Signal) (level : Level) (changes : List Change) → done (level_effect signal) (Some level) changes ≡ Some (level_behind signal level changes)
levels_done signal level [] = refl
levels_done signal level (Moves other now ∷ changes) = by_test (same_signal signal other) (λ k. levels_done signal k changes)
  where
    by_test : (b : Bool) → ((k : Level) → done (level_effect signal) (Some k) changes ≡ Some (level_behind signal k changes)) →
        done (level_effect signal) (cond b (Some now) (Some level)) changes ≡ Some (level_behind signal (cond b now level) changes)
    by_test true rest = rest now
    by_test false rest = rest level
levels_done signal level (Takes channel value ∷ changes) = levels_done signal level changes
levels_done signal level (Happens v ∷ changes) = levels_done signal level changes
levels_done signal level (Unseen ∷ changes) = levels_done signal level changes

pub signal_is : (signal other : Signal) → same_signal signal other ≡ true → other ≡ signal
signal_is (Output p) (Output q) same = ap (λ n. Output (record { 0 = n })) (sym (eqb-true p.0 q.0 same))
signal_is (Output p) (Input q) same = absurd (false≢true same)
signal_is (Input p) (Output q) same = absurd (false≢true same)
signal_is (Input p) (Input q) same = ap (λ n. Input (record { 0 = n })) (sym (eqb-true p.0 q.0 same))

pub same_self : (signal : Signal) → same_signal signal signal ≡ true
same_self (Output p) = eq-eqb p.0 p.0 refl
same_self (Input p) = eq-eqb p.0 p.0 refl

levels_next : (start : Signal → Level) (signal : Signal) (v : Variable) (vs : List Variable) (a : Option Level) → (a ≡ Some (start signal)) ⊎ Member (Wire signal) (v ∷ vs) →
    (level_effect signal (start_change start v) a ≡ Some (start signal)) ⊎ Member (Wire signal) vs
levels_next start signal (Wire other) vs a there = by_test (same_signal signal other) refl there
  where
    by_test : (b : Bool) → same_signal signal other ≡ b → (a ≡ Some (start signal)) ⊎ Member (Wire signal) (Wire other ∷ vs) → (cond b (Some (start other)) a ≡ Some (start signal)) ⊎ Member (Wire signal) vs
    by_test true e given = inl (ap (λ s. Some (start s)) (signal_is signal other e))
    by_test false e given = passed given (λ same. let is : other ≡ signal = cc in false≢true (sym e ∙ ap (same_signal signal) is ∙ same_self signal))
levels_next start signal (Analog channel) vs a there = passed there (λ same. cc)
levels_next start signal (Entry number) vs a there = passed there (λ same. cc)
levels_next start signal (Transfer number) vs a there = passed there (λ same. cc)
levels_next start signal Undefined vs a there = passed there (λ same. cc)
levels_next start signal Life vs a there = passed there (λ same. cc)

levels_start : (wanted : ℕ → Bool) (on : wanted 0 ≡ true) (start : Signal → Level) (signal : Signal) (vs : List Variable) (a : Option Level) → (a ≡ Some (start signal)) ⊎ Member (Wire signal) vs →
    applied wanted (level_effect signal) a (starts start vs) ≡ Some (start signal)
levels_start wanted on start signal [] a (inl is) = is
levels_start wanted on start signal [] a (inr there) = absurd there
levels_start wanted on start signal (v ∷ vs) a there =
    let next = level_effect signal (start_change start v) a in
    ap (λ b. applied wanted (level_effect signal) (cond b next a) (starts start vs)) on ∙ levels_start wanted on start signal vs next (levels_next start signal v vs a there)

levels_shown : (shown : Shown) (steps : List Seen) (signal : Signal) (t : ℕ) → IsSound shown steps → Member (Wire signal) shown.variables →
    level_with (shown.length * t) (text_lines (dump_of shown steps)) (Some (code_of (Wire signal))) ≡ Some (level_behind signal (shown.start signal) (changes_to t (changes_of shown steps)))
levels_shown shown steps signal t sound there =
    let m = shown.length in
    let is = member_known (Wire signal) shown.variables sound.variables there in
    let wanted : ℕ → Bool = λ at. is_up_to (m * t) (Some (m * at)) in
    let effect = level_effect signal in
    let changes = changes_of shown steps in
    let first = starts shown.start shown.variables in
    let same : (at : ℕ) → wanted at ≡ leb at t = λ at. up_to_state m t at sound.goes in
    up_to-if (level_by (code_of (Wire signal))) (m * t) None None (text_lines (dump_of shown steps))
    ∙ dump_read (is_up_to (m * t)) (level_by (code_of (Wire signal))) effect (reads_levels signal is) refl m sound.slow shown changes None sound.variables sound.changes
    ∙ applied-append wanted effect None first changes
    ∙ ap (λ a. applied wanted effect a changes) (levels_start wanted (same 0 ∙ le-leb 0 t (omega arith)) shown.start signal shown.variables None (inr there))
    ∙ applied_done wanted (λ at. leb at t) effect (Some (shown.start signal)) changes same
    ∙ levels_done signal (shown.start signal) (changes_to t changes)

-- ---- values

values_done : (channel value : ℕ) (changes : List Change) → done (value_effect channel) (Some value) changes ≡ Some (value_behind channel value changes)
values_done channel value [] = refl
values_done channel value (Takes other now ∷ changes) = by_test (eqb other channel) (λ k. values_done channel k changes)
  where
    by_test : (b : Bool) → ((k : ℕ) → done (value_effect channel) (Some k) changes ≡ Some (value_behind channel k changes)) →
        done (value_effect channel) (cond b (Some now) (Some value)) changes ≡ Some (value_behind channel (cond b now value) changes)
    by_test true rest = rest now
    by_test false rest = rest value
values_done channel value (Moves signal level ∷ changes) = values_done channel value changes
values_done channel value (Happens v ∷ changes) = values_done channel value changes
values_done channel value (Unseen ∷ changes) = values_done channel value changes

values_next : (start : Signal → Level) (channel : ℕ) (v : Variable) (vs : List Variable) (a : Option ℕ) → (a ≡ Some 0) ⊎ Member (Analog channel) (v ∷ vs) →
    (value_effect channel (start_change start v) a ≡ Some 0) ⊎ Member (Analog channel) vs
values_next start channel (Analog other) vs a there = by_test (eqb other channel) refl there
  where
    by_test : (b : Bool) → eqb other channel ≡ b → (a ≡ Some 0) ⊎ Member (Analog channel) (Analog other ∷ vs) → (cond b (Some 0) a ≡ Some 0) ⊎ Member (Analog channel) vs
    by_test true e given = inl refl
    by_test false e given = passed given (λ same. let is : other ≡ channel = cc in eqb-false other channel e is)
values_next start channel (Wire signal) vs a there = passed there (λ same. cc)
values_next start channel (Entry number) vs a there = passed there (λ same. cc)
values_next start channel (Transfer number) vs a there = passed there (λ same. cc)
values_next start channel Undefined vs a there = passed there (λ same. cc)
values_next start channel Life vs a there = passed there (λ same. cc)

values_start : (wanted : ℕ → Bool) (on : wanted 0 ≡ true) (start : Signal → Level) (channel : ℕ) (vs : List Variable) (a : Option ℕ) → (a ≡ Some 0) ⊎ Member (Analog channel) vs →
    applied wanted (value_effect channel) a (starts start vs) ≡ Some 0
values_start wanted on start channel [] a (inl is) = is
values_start wanted on start channel [] a (inr there) = absurd there
values_start wanted on start channel (v ∷ vs) a there =
    let next = value_effect channel (start_change start v) a in
    ap (λ b. applied wanted (value_effect channel) (cond b next a) (starts start vs)) on ∙ values_start wanted on start channel vs next (values_next start channel v vs a there)

values_shown : (shown : Shown) (steps : List Seen) (channel t : ℕ) → IsSound shown steps → Member (Analog channel) shown.variables →
    value_with (shown.length * t) (text_lines (dump_of shown steps)) (Some (code_of (Analog channel))) ≡ Some (value_behind channel 0 (changes_to t (changes_of shown steps)))
values_shown shown steps channel t sound there =
    let m = shown.length in
    let is = member_known (Analog channel) shown.variables sound.variables there in
    let wanted : ℕ → Bool = λ at. is_up_to (m * t) (Some (m * at)) in
    let effect = value_effect channel in
    let changes = changes_of shown steps in
    let first = starts shown.start shown.variables in
    let same : (at : ℕ) → wanted at ≡ leb at t = λ at. up_to_state m t at sound.goes in
    up_to-if (value_by (code_of (Analog channel))) (m * t) None None (text_lines (dump_of shown steps))
    ∙ dump_read (is_up_to (m * t)) (value_by (code_of (Analog channel))) effect (reads_values channel is) refl m sound.slow shown changes None sound.variables sound.changes
    ∙ applied-append wanted effect None first changes
    ∙ ap (λ a. applied wanted effect a changes) (values_start wanted (same 0 ∙ le-leb 0 t (omega arith)) shown.start channel shown.variables None (inr there))
    ∙ applied_done wanted (λ at. leb at t) effect (Some 0) changes same
    ∙ values_done channel 0 (changes_to t changes)

-- ---- events

counts_done : (event : Variable) (n : ℕ) (changes : List Change) → done (count_effect event) n changes ≡ n + count_among event changes
counts_done event n [] = omega arith
counts_done event n (Happens v ∷ changes) = by_test (eqb (number_of v) (number_of event)) (λ k. counts_done event k changes)
  where
    by_test : (b : Bool) → ((k : ℕ) → done (count_effect event) k changes ≡ k + count_among event changes) →
        done (count_effect event) (cond b (n + 1) n) changes ≡ n + length (cond b (Happens v ∷ filter (is_happening event) changes) (filter (is_happening event) changes))
    by_test true rest = let all = rest (n + 1) in omega (arith, all)
    by_test false rest = rest n
counts_done event n (Moves signal level ∷ changes) = counts_done event n changes
counts_done event n (Takes channel value ∷ changes) = counts_done event n changes
counts_done event n (Unseen ∷ changes) = counts_done event n changes

either : {A : Type 0} (b : Bool) (a : A) → cond b a a ≡ a
either true a = refl
either false a = refl

none_counted : (start : Signal → Level) (event v : Variable) (n : ℕ) → count_effect event (start_change start v) n ≡ n
none_counted start event (Wire signal) n = refl
none_counted start event (Analog channel) n = refl
none_counted start event (Entry number) n = refl
none_counted start event (Transfer number) n = refl
none_counted start event Undefined n = refl
none_counted start event Life n = refl

counts_start : (wanted : ℕ → Bool) (start : Signal → Level) (event : Variable) (n : ℕ) (vs : List Variable) → applied wanted (count_effect event) n (starts start vs) ≡ n
counts_start wanted start event n [] = refl
counts_start wanted start event n (v ∷ vs) =
    ap (λ k. applied wanted (count_effect event) k (starts start vs)) (ap (λ k. cond (wanted 0) k n) (none_counted start event v n) ∙ either (wanted 0) n) ∙ counts_start wanted start event n vs

counts_shown : (shown : Shown) (steps : List Seen) (event : Variable) (t : ℕ) → IsSound shown steps → IsEvent event → Member event shown.variables →
    read_at (count_by (code_of event)) (shown.length * t) None 0 (text_lines (dump_of shown steps)) ≡ count_among event (changes_in t (changes_of shown steps))
counts_shown shown steps event t sound high there =
    let m = shown.length in
    let is = member_known event shown.variables sound.variables there in
    let wanted : ℕ → Bool = λ at. is_now (m * t) (Some (m * at)) in
    let effect = count_effect event in
    let changes = changes_of shown steps in
    let first = starts shown.start shown.variables in
    let all = counts_done event 0 (changes_in t changes) in
    at-if (count_by (code_of event)) (m * t) None 0 (text_lines (dump_of shown steps))
    ∙ dump_read (is_now (m * t)) (count_by (code_of event)) effect (reads_counts event is high) refl m sound.slow shown changes 0 sound.variables sound.changes
    ∙ applied-append wanted effect 0 first changes
    ∙ ap (λ a. applied wanted effect a changes) (counts_start wanted shown.start event 0 shown.variables)
    ∙ applied_done wanted (λ at. eqb at t) effect 0 changes (λ at. at_state m t at sound.goes)
    ∙ omega (arith, all)

-- ---- all of it

named : (shown : Shown) (steps : List Seen) (v : Variable) → IsSound shown steps → Member v shown.variables → code_in (name_of v) (text_lines (dump_of shown steps)) ≡ Some (code_of v)
named shown steps v sound there = code_found shown (texts shown.length 0 (changes_of shown steps)) v (member_known v shown.variables sound.variables there) sound.variables there

pub shown_changes : DumpsShowChanges
shown_changes = record {
  levels = λ shown steps signal t sound there. ap (level_with (shown.length * t) (text_lines (dump_of shown steps))) (named shown steps (Wire signal) sound there) ∙ levels_shown shown steps signal t sound there;
  values = λ shown steps channel t sound there. ap (value_with (shown.length * t) (text_lines (dump_of shown steps))) (named shown steps (Analog channel) sound there) ∙ values_shown shown steps channel t sound there;
  events = λ shown steps event t sound high there. ap (count_with (shown.length * t) (text_lines (dump_of shown steps))) (named shown steps event sound there) ∙ ap (λ n. Some n) (counts_shown shown steps event t sound high there);
}
