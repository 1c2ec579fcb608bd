-- The verdict of rules that have watched a run.
use Rattle.std.proofs.Math.Seq.{take-length}
use Rattle.std.proofs.Common.{◌≡◌, ℕ, ◌≤◌, length, get_or, take, drop, ◌-◌, arith, Bool, true, false, ◌||◌, Option, Result, Ok, Err, List, [], ◌∷◌, ◌++◌, filter, flat_map, if◌then◌else◌, refl, sym, ap, subst, ◌∙◌, append_assoc, append-nil}
use Rattle.std.specs.Prelude.{OnOk}
use Rattle.kc_trace.specs.Lives.{Life}
use Rattle.kc_stim.specs.Drives.{Drives}
use Rattle.kc_rules.specs.declared.rule.Rule.{Rule}
use Rattle.kc_rules.specs.Lines.{Book}
use Rattle.kc_events.specs.declared.lives.LivesFault.{LivesFault}
use Rattle.kc_events.specs.declared.lives.LivesFault.TheVariants.{BadTrace, Failed, NoMemory}
use Rattle.kc_events.specs.Grammar.{start_place}
use Rattle.kc_events.specs.Lives.{lives_of}
use Rattle.kc_events.specs.Steps.{Seen}
use Rattle.kc_events.specs.Reporting.{Reporting, AreToCome, AreStepsOf, IsFirstWrongIn, IsWrongAt, IfWrong, Counts}
use Rattle.kc_monitor.specs.declared.monitor.Monitor.{Monitor}
use Rattle.kc_monitor.specs.declared.watch.Watch.{Watch}
use Rattle.kc_monitor.specs.Verdicts.{verdict_of, is_broken}
use Rattle.kc_kit_messages.specs.Diagnostics.{broken_diagnostic}
use Rattle.kc_monitor.specs.Watches.{IsNew}
use Rattle.kc_kit_verdict.specs.declared.verdict.Verdict.{Verdict}
use Rattle.kc_kit_verdict.specs.Runs.{count_lives, tally_in, broken_in, diagnostics}
use Rattle.kc_kit_verdict.specs.Watched.{HasWatched, HaveSeen}
use Rattle.kc_kit_verdict.specs.Verdicts.{is_any, IsChecked, verdicts_by, broken_by, IsVerdict, said_of, IsPassedOn}
use Rattle.kc_kit_verdict.proofs.RunLemmas.{runs_are_seen, rules_stay}

-- ---- rule by rule

-- what was put so far, with what these rules are still to put, is that of all
pub record IsSoFar (name text : List ℕ) (rules : List Rule) (monitors : List Monitor) (left : List Rule) (ahead : List Monitor) (verdict : Verdict) : Type 0 where
  pub printed : verdict.text.items ++ verdicts_by left ahead ≡ verdicts_by rules monitors
  pub said : verdict.diagnostic.items ++ diagnostics name text (broken_by left ahead) ≡ diagnostics name text (broken_by rules monitors)
  pub broken : (verdict.is_broken || is_any (broken_by left ahead)) ≡ is_any (broken_by rules monitors)

pub none_put : (name text : List ℕ) (rules : List Rule) (monitors : List Monitor) (verdict : Verdict) → verdict.text.items ≡ [] → verdict.diagnostic.items ≡ [] → verdict.is_broken ≡ false →
    IsSoFar name text rules monitors rules monitors verdict
none_put name text rules monitors verdict printed said broken = record {
  printed = ap (λ (t : List ℕ). t ++ verdicts_by rules monitors) printed;
  said = ap (λ (t : List ℕ). t ++ diagnostics name text (broken_by rules monitors)) said;
  broken = ap (λ (b : Bool). b || is_any (broken_by rules monitors)) broken;
}

joined : (old new text rest all : List ℕ) → new ≡ old ++ text → old ++ (text ++ rest) ≡ all → new ++ rest ≡ all
joined old new text rest all put h = ap (λ (t : List ℕ). t ++ rest) put ∙ append_assoc old text rest ∙ h

said_more : (name text : List ℕ) (rule : Rule) (b : Bool) (rules : List Rule) →
    (if b then broken_diagnostic name text rule.line else []) ++ diagnostics name text rules ≡ diagnostics name text (if b then rule ∷ rules else rules)
said_more name text rule true rules = refl
said_more name text rule false rules = refl

broken_more : (old b : Bool) (rule : Rule) (rules : List Rule) → ((old || b) || is_any rules) ≡ (old || is_any (if b then rule ∷ rules else rules))
broken_more true b rule rules = refl
broken_more false true rule rules = refl
broken_more false false rule rules = refl

pub one_put : (name text : List ℕ) (rules : List Rule) (monitors : List Monitor) (rule : Rule) (left : List Rule) (m : Monitor) (ahead : List Monitor) (old new : Verdict) →
    IsSoFar name text rules monitors (rule ∷ left) (m ∷ ahead) old → new.text.items ≡ old.text.items ++ verdict_of rule m.life m.tally →
    new.diagnostic.items ≡ old.diagnostic.items ++ said_of name text rule m.tally → new.is_broken ≡ (old.is_broken || is_broken rule m.tally) →
    IsSoFar name text rules monitors left ahead new
unfolding verdicts_by broken_by
one_put name text rules monitors rule left m ahead old new h printed said broken =
    let others = broken_by left ahead in
    record {
      printed = joined old.text.items new.text.items (verdict_of rule m.life m.tally) (verdicts_by left ahead) (verdicts_by rules monitors) printed h.printed;
      said =
          joined old.diagnostic.items new.diagnostic.items (said_of name text rule m.tally) (diagnostics name text others) (diagnostics name text (broken_by rules monitors)) said
          (ap (λ (t : List ℕ). old.diagnostic.items ++ t) (said_more name text rule (is_broken rule m.tally) others) ∙ h.said);
      broken = ap (λ (b : Bool). b || is_any others) broken ∙ broken_more old.is_broken (is_broken rule m.tally) rule others ∙ h.broken;
    }

or_false : (b : Bool) → (b || false) ≡ b
or_false true = refl
or_false false = refl

-- nothing is left to put
whole : (name text : List ℕ) (rules : List Rule) (monitors : List Monitor) (left : List Rule) (ahead : List Monitor) (verdict : Verdict) → verdicts_by left ahead ≡ [] → broken_by left ahead ≡ [] →
    IsSoFar name text rules monitors left ahead verdict → IsVerdict name text rules monitors verdict
whole name text rules monitors left ahead verdict none unbroken h = record {
  printed = sym (append-nil verdict.text.items) ∙ ap (λ (t : List ℕ). verdict.text.items ++ t) (sym none) ∙ h.printed;
  said = sym (append-nil verdict.diagnostic.items) ∙ ap (λ (rs : List Rule). verdict.diagnostic.items ++ diagnostics name text rs) (sym unbroken) ∙ h.said;
  broken = sym (or_false verdict.is_broken) ∙ ap (λ (rs : List Rule). verdict.is_broken || is_any rs) (sym unbroken) ∙ h.broken;
}

pub all_put : (name text : List ℕ) (rules : List Rule) (monitors : List Monitor) (ahead : List Monitor) (verdict : Verdict) → IsSoFar name text rules monitors [] ahead verdict → IsVerdict name text rules monitors verdict
unfolding verdicts_by broken_by
all_put name text rules monitors ahead verdict h = whole name text rules monitors [] ahead verdict refl refl h

pub no_more : (name text : List ℕ) (rules : List Rule) (monitors : List Monitor) (rule : Rule) (left : List Rule) (verdict : Verdict) → IsSoFar name text rules monitors (rule ∷ left) [] verdict → IsVerdict name text rules monitors verdict
unfolding verdicts_by broken_by
no_more name text rules monitors rule left verdict h = whole name text rules monitors (rule ∷ left) [] verdict refl refl h

abbrev pub tail : {X : Type 0} → List X → List X
tail xs = take (length xs - 1) (drop 1 xs)

tail_is : {X : Type 0} (x : X) (xs : List X) → tail (x ∷ xs) ≡ xs
tail_is x xs =
    let n : length (x ∷ xs) - 1 ≡ length xs = omega arith in
    rw n (take-length xs)

pub first_put : (name text : List ℕ) (rules : List Rule) (monitors : List Monitor) (left : List Rule) (ahead : List Monitor) (rule : Rule) (m : Monitor) (old new : Verdict) → 1 ≤ length left → 1 ≤ length ahead →
    rule ≡ get_or left 0 rule → m ≡ get_or ahead 0 m → IsSoFar name text rules monitors left ahead old → new.text.items ≡ old.text.items ++ verdict_of rule m.life m.tally →
    new.diagnostic.items ≡ old.diagnostic.items ++ said_of name text rule m.tally → new.is_broken ≡ (old.is_broken || is_broken rule m.tally) →
    IsSoFar name text rules monitors (tail left) (tail ahead) new
first_put name text rules monitors [] ahead rule m old new some more is_rule is_m h printed said broken = absurd (omega arith)
first_put name text rules monitors (x ∷ left) [] rule m old new some more is_rule is_m h printed said broken = absurd (omega arith)
first_put name text rules monitors (x ∷ left) (y ∷ ahead) rule m old new some more is_rule is_m h printed said broken =
    let e : rule ≡ x = is_rule in
    let f : m ≡ y = is_m in
    subst (λ l. IsSoFar name text rules monitors l (tail (y ∷ ahead)) new) (sym (tail_is x left))
    (subst (λ a. IsSoFar name text rules monitors left a new) (sym (tail_is y ahead))
    (one_put name text rules monitors x left y ahead old new h (printed ∙ (λ i. old.text.items ++ verdict_of (e i) (f i).life (f i).tally))
    (said ∙ (λ i. old.diagnostic.items ++ said_of name text (e i) (f i).tally)) (broken ∙ (λ i. old.is_broken || is_broken (e i) (f i).tally))))

pub last_put : (name text : List ℕ) (rules : List Rule) (monitors : List Monitor) (left : List Rule) (ahead : List Monitor) (verdict : Verdict) → length left ≤ 0 → IsSoFar name text rules monitors left ahead verdict → IsVerdict name text rules monitors verdict
last_put name text rules monitors [] ahead verdict none h = all_put name text rules monitors ahead verdict h
last_put name text rules monitors (x ∷ left) ahead verdict none h = absurd (omega arith)

pub none_ahead : (name text : List ℕ) (rules : List Rule) (monitors : List Monitor) (left : List Rule) (ahead : List Monitor) (verdict : Verdict) → length ahead ≤ 0 → IsSoFar name text rules monitors left ahead verdict → IsVerdict name text rules monitors verdict
none_ahead name text rules monitors [] ahead verdict none h = all_put name text rules monitors ahead verdict h
none_ahead name text rules monitors (x ∷ left) [] verdict none h = no_more name text rules monitors x left verdict h
none_ahead name text rules monitors (x ∷ left) (y ∷ ahead) verdict none h = absurd (omega arith)

-- ---- rules whose monitors have seen lives

verdicts_seen : (book : Book) (count : ℕ) (lives : List Life) (rules : List Rule) (monitors : List Monitor) → HaveSeen book count lives rules monitors →
    verdicts_by rules monitors ≡ flat_map (λ rule. verdict_of rule count (tally_in book lives rule)) rules
unfolding HaveSeen verdicts_by
verdicts_seen book count lives [] monitors h = refl
verdicts_seen book count lives (rule ∷ rules) [] h = absurd h
verdicts_seen book count lives (rule ∷ rules) (m ∷ monitors) h =
    let others = verdicts_seen book count lives rules monitors h.2 in
    λ i. verdict_of rule (h.0 i) (h.1 i) ++ others i

broken_seen : (book : Book) (count : ℕ) (lives : List Life) (rules : List Rule) (monitors : List Monitor) → HaveSeen book count lives rules monitors →
    broken_by rules monitors ≡ filter (λ rule. is_broken rule (tally_in book lives rule)) rules
unfolding HaveSeen broken_by
broken_seen book count lives [] monitors h = refl
broken_seen book count lives (rule ∷ rules) [] h = absurd h
broken_seen book count lives (rule ∷ rules) (m ∷ monitors) h =
    let others = broken_seen book count lives rules monitors h.2 in
    λ i. if is_broken rule (h.1 i) then rule ∷ others i else others i

-- ---- the run of a source

run_verdict : (name text : List ℕ) (book : Book) (drives : Drives) (left : Option (List ℕ)) (v w : Watch) (steps : List Seen) (verdict : Verdict) → IsNew book.marks book.rules v → AreStepsOf drives left steps →
    HasWatched v steps w → IsVerdict name text w.rules.rules w.monitors.items verdict → IsChecked name text book drives left (Ok verdict)
run_verdict name text book drives left v w steps verdict new are watched is =
    let seen = runs_are_seen book drives are.lines v w are.run new (subst (λ all. HasWatched v all w) are.is watched) in
    let rules : w.rules.rules ≡ book.rules = ap (λ b. b.rules) (rules_stay steps v w watched) ∙ new.rules_are in
    let count = count_lives are.lines in
    let lives = lives_of drives are.lines in
    let broken : broken_by w.rules.rules w.monitors.items ≡ broken_in book lives =
    ap (λ (rs : List Rule). broken_by rs w.monitors.items) rules ∙ broken_seen book count lives book.rules w.monitors.items seen in
    record {
      lines = are.lines;
      text = are.text;
      run = are.run;
      is = record {
        printed = is.printed ∙ ap (λ (rs : List Rule). verdicts_by rs w.monitors.items) rules ∙ verdicts_seen book count lives book.rules w.monitors.items seen;
        said = is.said ∙ ap (diagnostics name text) broken;
        broken = is.broken ∙ ap is_any broken;
      };
    }

pub run_checked : {A : Type 0} (name text : List ℕ) (book : Book) (drives : Drives) (left : Option (List ℕ)) (t : Reporting) (v w : Watch) (watched : Result A LivesFault) (result : Result Verdict LivesFault) → IsNew book.marks book.rules v →
    ((steps : List Seen) → AreToCome t steps → AreStepsOf drives left steps) → ((line : ℕ) → IsWrongAt t line → IsFirstWrongIn (start_place 0) left 0 line) →
    OnOk watched ((steps : List Seen) × AreToCome t steps × HasWatched v steps w) → IfWrong watched (IsWrongAt t) → IsPassedOn watched (IsVerdict name text w.rules.rules w.monitors.items) result →
    IsChecked name text book drives left result
run_checked name text book drives left t v w (Ok u) (Ok verdict) new start wrong all fault is = run_verdict name text book drives left v w all.0 verdict new (start all.0 all.1) all.2 is
run_checked name text book drives left t v w (Ok u) (Err e) new start wrong all fault is = subst (λ f. IsChecked name text book drives left (Err f)) (sym is) tt
run_checked name text book drives left t v w (Err (BadTrace line)) result new start wrong all fault is = subst (IsChecked name text book drives left) (sym is) (wrong line fault)
run_checked name text book drives left t v w (Err Failed) result new start wrong all fault is = subst (IsChecked name text book drives left) (sym is) tt
run_checked name text book drives left t v w (Err NoMemory) result new start wrong all fault is = subst (IsChecked name text book drives left) (sym is) tt

faults_counted : {A : Type 0} (P : Verdict → Type 0) (before now : ℕ) (watched : Result A LivesFault) (result : Result Verdict LivesFault) → IsPassedOn watched P result → Counts before watched now → Counts before result now
faults_counted P before now (Ok u) (Ok verdict) is h = h
faults_counted P before now (Ok u) (Err (BadTrace line)) is h = h
faults_counted P before now (Ok u) (Err Failed) is h = absurd cc
faults_counted P before now (Ok u) (Err NoMemory) is h = h
faults_counted P before now (Err (BadTrace line)) result is h = subst (λ r. Counts before r now) (sym is) h
faults_counted P before now (Err Failed) result is h = subst (λ r. Counts before r now) (sym is) h
faults_counted P before now (Err NoMemory) result is h = subst (λ r. Counts before r now) (sym is) h

-- and the source that comes back has counted the same
pub faults_given : {A : Type 0} (P : Verdict → Type 0) (source before now given : ℕ) (watched : Result A LivesFault) (result : Result Verdict LivesFault) → before ≡ source → given ≡ now →
    IsPassedOn watched P result → Counts before watched now → Counts source result given
faults_given P source before now given watched result first last is h =
    subst (λ n. Counts source result n) (sym last) (subst (λ n. Counts n result now) first (faults_counted P before now watched result is h))
