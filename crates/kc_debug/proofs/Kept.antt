-- What is kept of the lives so far stands for all of them: a command does the same over it.
use Rattle.std.proofs.Common.{◌≡◌, ℕ, suc, ◌+◌, ◌-◌, ◌<◌, ◌≤◌, Bool, true, false, ◌&&◌, if◌then◌else◌, nat_lt, nat_le, List, [], ◌∷◌, ◌++◌, map, length, take, drop, get_or, flat_map, Option, Some, None, Result, Ok, Err, Any, OnOk, inl, inr, refl, sym, ◌∙◌, ap, subst, append_assoc, append-nil, length-append, length-drop, length-take-le, ◌↔◌, arith}
use Rattle.std.proofs.Math.Seq.{drop-append-add}
use Rattle.std.proofs.lemmas.Bool.{cases_lt}
use Rattle.std.proofs.lemmas.Grind.{flat_map-append}
use Rattle.std.proofs.lemmas.List.{drop_all, drop-append-le, drop-map, get_or_append_left, get_or-map, length-map, map_push, take_all, take_more}
use Rattle.circular_buffer.specs.Buffer.{Buffer, buffer, keep_last}
use Rattle.kc_base.specs.Limits.{max_states}
use Rattle.kc_stim.specs.Drives.{Drives}
use Rattle.kc_extra.specs.Further.{Further}
use Rattle.kc_trace.specs.Out.{Out, Puts}
use Rattle.kc_trace.specs.Text.{text_of, line_of}
use Rattle.kc_trace.proofs.Outs.{Puts-append}
use Rattle.kc_machine_spec.specs.declared.doing.End.{End}
use Rattle.kc_machine_spec.specs.declared.doing.UnderWay.{UnderWay}
use Rattle.kc_machine_spec.specs.Machine.{Machine}
use Rattle.kc_machine.specs.Stepping.{end_line, register_lines}
use Rattle.kc_cycles.specs.Life.{Life, life_for}
use Rattle.kc_cycles.specs.Lives.{is_reset, restart_line}
use Rattle.kc_cycles.specs.declared.lives.LivesFault.{LivesFault}
use Rattle.kc_cycles.specs.declared.lives.LivesFault.TheVariants as fault
use Rattle.kc_debug_script.specs.declared.command.Command.{Command}
use Rattle.kc_debug_script.specs.declared.command.Command.TheVariants.{Step, Go, Break, Registers, Show, Write, History, Quit}
use Rattle.kc_debug_script.specs.declared.line_map.MapEntry.{MapEntry}
use Rattle.kc_debug.specs.declared.activities.Begun.{Begun}
use Rattle.kc_debug.specs.declared.past.Past.{Past}
use Rattle.kc_debug.specs.Activities.{begun_for, finished}
use Rattle.kc_debug.specs.Debugging.{past_of, past_in, kept_of, standing, IsDone}
use Rattle.kc_debug.specs.InLives.{InLife, says, stand_line, activity_line, all_finished, history, over_of, born, lived, is_followed, followed, ended_as, settled, goes_on, gone_for, after_command}
use Rattle.kc_debug.specs.Lines.{memory_lines}
use Rattle.kc_debug.specs.Stops.{states_of_activities, states_of_run}
use Rattle.kc_debug.proofs.Last.{last-append, last-same, last-finished}

-- ---- the last of lists

-- the last of two lists are those of the first and the last of the second
pub last-tail : {A : Type 0} (n : ℕ) (xs ys : List A) → keep_last n (xs ++ keep_last n ys) ≡ keep_last n (xs ++ ys)
last-tail n xs ys = elim (cases_lt n (length ys)) [
  | inl more ↦
      let k : ℕ = length ys - n in
      let rest : length (drop k ys) ≡ length ys - k = length-drop k ys in
      let few : length (xs ++ drop k ys) ≡ length xs + length (drop k ys) = length-append xs (drop k ys) in
      let all : length (xs ++ ys) ≡ length xs + length ys = length-append xs ys in
      let here : length (xs ++ drop k ys) - n ≡ length xs + 0 = omega (arith, few, rest, more) in
      let there : length (xs ++ ys) - n ≡ length xs + k = omega (arith, all, more) in
      ap (λ i. drop i (xs ++ drop k ys)) here ∙ drop-append-add xs (drop k ys) 0 ∙ sym (ap (λ i. drop i (xs ++ ys)) there ∙ drop-append-add xs ys k)
  | inr few ↦
      let none : length ys - n ≡ 0 = omega (arith, few) in
      ap (λ i. keep_last n (xs ++ drop i ys)) none
]

pub last-map : {A B : Type 0} (h : A → B) (n : ℕ) (xs : List A) → keep_last n (map h xs) ≡ map h (keep_last n xs)
last-map h n xs = ap (λ k. drop (k - n) (map h xs)) (length-map xs h) ∙ drop-map h (length xs - n) xs

finished-alike : (u : Option UnderWay) (b c : List Begun) → keep_last 33 b ≡ keep_last 33 c → keep_last 32 (finished u b) ≡ keep_last 32 (finished u c)
finished-alike u b c e = sym (last-finished u b) ∙ ap (λ xs. keep_last 32 (finished u xs)) e ∙ last-finished u c

past-alike : (p q : List (ℕ × Begun)) (number : ℕ) (u : Option UnderWay) (b c : List Begun) → keep_last 32 p ≡ keep_last 32 q → keep_last 33 b ≡ keep_last 33 c →
    keep_last 32 (p ++ map (λ x. (number, x)) (finished u b)) ≡ keep_last 32 (q ++ map (λ x. (number, x)) (finished u c))
past-alike p q number u b c e d =
    let h : Begun → ℕ × Begun = λ x. (number, x) in
    let last : keep_last 32 (map h (finished u b)) ≡ keep_last 32 (map h (finished u c)) =
    last-map h 32 (finished u b) ∙ ap (map h) (finished-alike u b c d) ∙ sym (last-map h 32 (finished u c)) in
    sym (last-append 32 p (map h (finished u b)))
    ∙ ap (λ xs. keep_last 32 (xs ++ map h (finished u b))) e
    ∙ last-append 32 q (map h (finished u b))
    ∙ sym (last-tail 32 q (map h (finished u b)))
    ∙ ap (λ ys. keep_last 32 (q ++ ys)) last
    ∙ last-tail 32 q (map h (finished u c))

-- ---- activities that are kept one after the other

abbrev are_kept : List Past → ℕ → List Begun → Buffer Past → Type 0
are_kept before life begun p = p ≡ buffer (keep_last 32 (before ++ map (past_in life) begun)) 32

pub finished-first : (life : ℕ) (p : Buffer Past) (xs : List Begun) → p ≡ buffer (keep_last 32 p.items) 32 → are_kept p.items life (take 0 xs) p
finished-first life p xs h = h ∙ ap (λ ys. buffer (keep_last 32 ys) 32) (sym (append-nil p.items))

pub finished-more : (before : List Past) (life n : ℕ) (xs : List Begun) (x : Begun) (p q : Buffer Past) → n < length xs → get_or xs n x ≡ x → are_kept before life (take n xs) p →
    q ≡ buffer (keep_last p.capacity (p.items ++ past_in life x ∷ [])) p.capacity → are_kept before life (take (n + 1) xs) q
finished-more before life n xs x p q within is h pushed =
    let some : List Past = map (past_in life) (take n xs) in
    let more : map (past_in life) (take (n + 1) xs) ≡ some ++ past_in life x ∷ [] =
    ap (map (past_in life)) (take_more xs n x within ∙ ap (λ y. take n xs ++ y ∷ []) is) ∙ map_push (past_in life) (take n xs) x in
    pushed
    ∙ ap (λ (b : Buffer Past). buffer (keep_last b.capacity (b.items ++ past_in life x ∷ [])) b.capacity) h
    ∙ ap (λ ys. buffer ys 32) (last-append 32 (before ++ some) (past_in life x ∷ []))
    ∙ ap (λ ys. buffer (keep_last 32 ys) 32) (append_assoc before some (past_in life x ∷ []) ∙ ap (λ ys. before ++ ys) (sym more))

pub finished-same : (before : List Past) (life n : ℕ) (xs : List Begun) (p : Buffer Past) → length xs ≤ n → are_kept before life (take n xs) p → are_kept before life (take (n + 1) xs) p
finished-same before life n xs p past h = subst (λ ys. are_kept before life ys p) (take_all n xs past ∙ sym (take_all (n + 1) xs (omega arith))) h

-- how many of those that have begun have finished
pub done-finished : (u : Option UnderWay) (bs : List Begun) (b : Bool) (n len : ℕ) → ((b ≡ true) ↔ (u ≡ None)) → len ≡ length bs → n ≡ (if b then len else len - 1) → (finished u bs ≡ take n bs) × (n ≡ length (finished u bs))
done-finished None bs true n len h long is =
    let all : n ≡ length bs = is ∙ long in
    (sym (take_all n bs (omega (arith, all))), all)
done-finished None bs false n len h long is = absurd (let c : false ≡ true = h.1 refl in cc)
done-finished (Some a) bs true n len h long is = absurd (let c : Some a ≡ None = h.0 refl in cc)
done-finished (Some a) bs false n len h long is =
    let fewer : n ≡ length bs - 1 = omega (arith, is, long) in
    let some : length (take (length bs - 1) bs) ≡ length bs - 1 = length-take-le (length bs - 1) bs (omega arith) in
    (ap (λ k. take k bs) (sym fewer), fewer ∙ sym some)

-- ---- the history, in two parts

drop-two : {A : Type 0} (k : ℕ) (xs ys : List A) → drop k (xs ++ ys) ≡ drop k xs ++ drop (k - length xs) ys
drop-two k xs ys = elim (cases_lt (length xs) k) [
  | inl more ↦
      let none : drop k xs ≡ [] = drop_all k xs (omega (arith, more)) in
      let sum : k ≡ length xs + (k - length xs) = omega (arith, more) in
      ap (λ i. drop i (xs ++ ys)) sum ∙ drop-append-add xs ys (k - length xs) ∙ ap (λ zs. zs ++ drop (k - length xs) ys) (sym none)
  | inr few ↦
      let none : k - length xs ≡ 0 = omega (arith, few) in
      drop-append-le k xs ys few ∙ ap (λ i. drop k xs ++ drop i ys) (sym none)
]

flat_map-map : {A B : Type 0} (line : B → List ℕ) (h : A → B) (xs : List A) → flat_map line (map h xs) ≡ flat_map (λ x. line (h x)) xs
flat_map-map line h [] = refl
flat_map-map line h (x ∷ xs) = ap (λ t. line (h x) ++ t) (flat_map-map line h xs)

pub history-parts : (line : ℕ × Begun → List ℕ) (ps : List Past) (number : ℕ) (fin bs : List Begun) (n first : ℕ) → fin ≡ take n bs → n ≡ length fin → first ≡ length ps + n - 32 →
    flat_map (λ p. line (past_of p)) (drop first ps) ++ flat_map (λ b. line (past_of (past_in number b))) (drop (first - length ps) (take n bs)) ≡ flat_map line (keep_last 32 (map past_of ps ++ map (λ b. (number, b)) fin))
history-parts line ps number fin bs n first are many from =
    let h : Begun → ℕ × Begun = λ b. (number, b) in
    let long : length (map past_of ps) ≡ length ps = length-map ps past_of in
    let short : length (map h fin) ≡ length fin = length-map fin h in
    let all : length (map past_of ps ++ map h fin) ≡ length (map past_of ps) + length (map h fin) = length-append (map past_of ps) (map h fin) in
    let there : first ≡ length (map past_of ps ++ map h fin) - 32 = omega (arith, long, short, all, many, from) in
    let behind : first - length ps ≡ first - length (map past_of ps) = omega (arith, long) in
    let one : flat_map (λ p. line (past_of p)) (drop first ps) ≡ flat_map line (drop first (map past_of ps)) =
    sym (ap (flat_map line) (drop-map past_of first ps) ∙ flat_map-map line past_of (drop first ps)) in
    let two : flat_map (λ b. line (past_of (past_in number b))) (drop (first - length ps) (take n bs)) ≡ flat_map line (drop (first - length (map past_of ps)) (map h fin)) =
    ap (λ xs. flat_map (λ b. line (h b)) (drop (first - length ps) xs)) (sym are)
    ∙ ap (λ k. flat_map (λ b. line (h b)) (drop k fin)) behind
    ∙ sym (ap (flat_map line) (drop-map h (first - length (map past_of ps)) fin) ∙ flat_map-map line h (drop (first - length (map past_of ps)) fin)) in
    ap (λ xs. xs ++ flat_map (λ b. line (past_of (past_in number b))) (drop (first - length ps) (take n bs))) one
    ∙ ap (λ xs. flat_map line (drop first (map past_of ps)) ++ xs) two
    ∙ sym (flat_map-append line (drop first (map past_of ps)) (drop (first - length (map past_of ps)) (map h fin)))
    ∙ ap (flat_map line) (sym (drop-two first (map past_of ps) (map h fin)))
    ∙ ap (λ k. flat_map line (drop k (map past_of ps ++ map h fin))) there

-- ---- some of a list

module _ {A : Type 0} (P : A → Type 0) where
  pub any-right : (xs ys : List A) → Any P ys → Any P (xs ++ ys)
  any-right [] ys h = h
  any-right (x ∷ xs) ys h = let m = any-right xs ys h in (suc m.0, m.1, omega (arith, m.2), m.3, m.4)

  pub any-left : (xs ys : List A) → Any P xs → Any P (xs ++ ys)
  any-left xs ys h =
      let all : length (xs ++ ys) ≡ length xs + length ys = length-append xs ys in
      (h.0, h.1, omega (arith, h.2, all), get_or_append_left xs ys h.1 h.0 h.2 ∙ h.3, h.4)

pub any-mono : {A : Type 0} (P Q : A → Type 0) (xs : List A) → ((x : A) → P x → Q x) → Any P xs → Any Q xs
any-mono P Q xs f h = (h.0, h.1, h.2, h.3, f h.1 h.4)

pub any-map : {A B : Type 0} (P : B → Type 0) (h : A → B) (xs : List A) → Any (λ x. P (h x)) xs → Any P (map h xs)
any-map P h xs k =
    let long : length (map h xs) ≡ length xs = length-map xs h in
    (k.0, h k.1, omega (arith, k.2, long), get_or-map h xs k.0 k.1 (h k.1) k.2 ∙ ap h k.3, k.4)

-- what follows where a call is Ok
pub on-ok : {A E : Type 0} {P Q : Type 0} (r : Result A E) → OnOk r P → (P → Q) → OnOk r Q
on-ok (Ok a) p h = h p
on-ok (Err e) p h = tt

-- ---- lives that differ in what is not kept of them, and in a text before

module _ {X : Type 0} where
  -- the second has a text and such places before what the first has
  pub record Near (t : List ℕ) (ps : List (List ℕ)) (k n : InLife X) : Type 0 where
    pub number : k.number ≡ n.number
    pub from : k.from ≡ n.from
    pub machine : k.machine ≡ n.machine
    pub over : k.over ≡ n.over
    pub breaks : k.breaks ≡ n.breaks
    pub past : keep_last 32 k.past ≡ keep_last 32 n.past
    pub begun : keep_last 33 k.begun ≡ keep_last 33 n.begun
    pub text : n.text ≡ t ++ k.text
    pub pauses : n.pauses ≡ ps ++ map (λ x. t ++ x) k.pauses

  pub near-kept : (t : List ℕ) (ps : List (List ℕ)) (k n : InLife X) → Near t ps k n → kept_of k ≡ kept_of n
  near-kept t ps k n h = λ i. record { number = h.number i; from = h.from i; machine = h.machine i; over = h.over i; breaks = h.breaks i; past = h.past i; begun = h.begun i; text = []; pauses = [] }

  -- a life behind what is kept of it
  pub near-first : (l : InLife X) → Near l.text l.pauses (kept_of l) l
  near-first l = record {
    number = refl;
    from = refl;
    machine = refl;
    over = refl;
    breaks = refl;
    past = last-same 32 l.past;
    begun = last-same 33 l.begun;
    text = sym (append-nil l.text);
    pauses = sym (append-nil l.pauses);
  }

  module _ (t : List ℕ) (ps : List (List ℕ)) where
    near-says : (a b : List ℕ) (k n : InLife X) → a ≡ b → Near t ps k n → Near t ps (says a k) (says b n)
    near-says a b k n e h = record {
      number = h.number;
      from = h.from;
      machine = h.machine;
      over = h.over;
      breaks = h.breaks;
      past = h.past;
      begun = h.begun;
      text = ap (λ xs. xs ++ b) h.text ∙ append_assoc t k.text b ∙ ap (λ xs. t ++ (k.text ++ xs)) (sym e);
      pauses = h.pauses;
    }

    pub near-standing : (k n : InLife X) → Near t ps k n → Near t ps (standing k) (standing n)
    near-standing k n h = near-says (stand_line k.number k.machine) (stand_line n.number n.machine) k n (λ i. stand_line (h.number i) (h.machine i)) h

    near-if : (b : Bool) (k n x y : InLife X) → Near t ps k n → Near t ps x y → Near t ps (if b then k else x) (if b then n else y)
    near-if true k n x y h g = h
    near-if false k n x y h g = g

    -- memory is wanted in the second behind the text of the first
    pub near-done : {A : Type 0} (k n : InLife X) (o0 o p : Out) (r : Result A LivesFault) → Near t ps k n → Puts o0 t o → IsDone k o r p → IsDone n o0 r p
    near-done k n o0 o p (Ok a) h first d = (subst (λ xs. Puts o0 xs p) (sym h.text) (Puts-append o0 t o k.text p first d.0), d.1)
    near-done k n o0 o p (Err fault.WriteFault) h first d = (subst (λ xs. Puts o0 xs p) (sym h.text) (Puts-append o0 t o k.text p first d.0), d.1)
    near-done k n o0 o p (Err fault.NoMemory) h first d =
        let behind : List ℕ → List ℕ = λ x. t ++ x in
        let some = any-map (λ x. Puts o0 x p) behind k.pauses (any-mono (λ x. Puts o x p) (λ x. Puts o0 (t ++ x) p) k.pauses (λ x h. Puts-append o0 t o x p first h) d.0) in
        (subst (λ xs. Any (λ x. Puts o0 x p) xs) (sym h.pauses) (any-right (λ x. Puts o0 x p) ps (map behind k.pauses) some), d.1)

module _ {X : Type 0} (f : Further X) (deadline : X → Option ℕ) (image : List ℕ) (drives : Drives) (unit : ℕ → X) (most : ℕ) where
  module _ (t : List ℕ) (ps : List (List ℕ)) (life : Life X) where
    near-lived : (k n : InLife X) → Near t ps k n → Near t ps (lived f deadline image drives unit most life k) (lived f deadline image drives unit most life n)
    near-lived k n h =
        let more : List Begun = begun_for f (life.ran.machine.time - k.machine.time) k.machine in
        record {
          number = h.number;
          from = h.from;
          machine = refl;
          over = h.over;
          breaks = h.breaks;
          past = h.past;
          begun = sym (last-append 33 k.begun more) ∙ ap (λ xs. keep_last 33 (xs ++ more)) h.begun ∙ last-append 33 n.begun more
              ∙ ap (λ (m : Machine X). keep_last 33 (n.begun ++ begun_for f (life.ran.machine.time - m.time) m)) h.machine;
          text = ap (λ xs. xs ++ text_of life.ran.records) h.text ∙ append_assoc t k.text (text_of life.ran.records);
          pauses = h.pauses;
        }

    near-followed : (k n : InLife X) → Near t ps k n → Near t ps (followed f deadline image drives unit most life k) (followed f deadline image drives unit most life n)
    near-followed k n h =
        let line : List ℕ = restart_line (life.ran.machine.time - 1) life.by_watchdog in
        let text : n.text ++ line ≡ t ++ (k.text ++ line) = ap (λ xs. xs ++ line) h.text ∙ append_assoc t k.text line in
        let behind : List ℕ → List ℕ = λ x. t ++ x in
        record {
          number = ap (λ i. i + 1) h.number;
          from = ap (λ i. i + life.ran.machine.time) h.from;
          machine = ap (λ i. born f deadline image drives unit most (i + life.ran.machine.time)) h.from;
          over = h.over;
          breaks = h.breaks;
          past = past-alike k.past n.past k.number k.machine.under_way k.begun n.begun h.past h.begun
              ∙ (λ i. keep_last 32 (n.past ++ map (λ x. (h.number i, x)) (finished (h.machine i).under_way n.begun)));
          begun = refl;
          text = text;
          pauses = ap (λ xs. xs ++ (n.text ++ line) ∷ []) h.pauses
              ∙ ap (λ y. (ps ++ map behind k.pauses) ++ y ∷ []) text
              ∙ append_assoc ps (map behind k.pauses) (behind (k.text ++ line) ∷ [])
              ∙ ap (λ xs. ps ++ xs) (sym (map_push behind k.pauses (k.text ++ line)));
        }

    near-ended : (o : Option End) (k n : InLife X) → Near t ps k n → Near t ps (ended_as f deadline image drives unit most o k) (ended_as f deadline image drives unit most o n)
    near-ended None k n h = h
    near-ended (Some how) k n h = record {
      number = h.number;
      from = h.from;
      machine = h.machine;
      over = refl;
      breaks = h.breaks;
      past = h.past;
      begun = h.begun;
      text = ap (λ xs. xs ++ line_of (end_line how n.machine)) h.text ∙ append_assoc t k.text (line_of (end_line how n.machine))
          ∙ ap (λ (m : Machine X). t ++ (k.text ++ line_of (end_line how m))) (sym h.machine);
      pauses = h.pauses;
    }

    pub near-settled : (k n : InLife X) → Near t ps k n → Near t ps (settled f deadline image drives unit most life k) (settled f deadline image drives unit most life n)
    near-settled k n h =
        let same : is_followed f deadline image drives unit most life k ≡ is_followed f deadline image drives unit most life n =
        (λ i. is_reset life.how && (nat_lt (h.number i) most && nat_le (h.from i + life.ran.machine.time) max_states)) in
        subst
        (λ (b : Bool). Near t ps (settled f deadline image drives unit most life k) (if b then followed f deadline image drives unit most life n else ended_as f deadline image drives unit most (over_of life.how) n)) same
        (near-if t ps (is_followed f deadline image drives unit most life k) (followed f deadline image drives unit most life k) (followed f deadline image drives unit most life n)
        (ended_as f deadline image drives unit most (over_of life.how) k) (ended_as f deadline image drives unit most (over_of life.how) n)
        (near-followed k n h) (near-ended (over_of life.how) k n h))

    near-goes : (o : Option End) (k n : InLife X) → Near t ps k n → Near t ps (goes_on f deadline image drives unit most o life k) (goes_on f deadline image drives unit most o life n)
    near-goes (Some how) k n h = h
    near-goes None k n h = near-settled (lived f deadline image drives unit most life k) (lived f deadline image drives unit most life n) (near-lived k n h)

  near-gone : (states : ℕ) (l : InLife X) → Near l.text l.pauses (gone_for f deadline image drives unit most states (kept_of l)) (gone_for f deadline image drives unit most states l)
  near-gone states l =
      let life : Life X = life_for f deadline states l.machine in
      near-standing l.text l.pauses (goes_on f deadline image drives unit most l.over life (kept_of l)) (goes_on f deadline image drives unit most l.over life l)
      (near-goes l.text l.pauses life l.over (kept_of l) l (near-first l))

  -- a command does the same over what is kept
  pub near-command : (entries : List MapEntry) (c : Command) (l : InLife X) → Near l.text l.pauses (after_command f deadline image drives unit most entries c (kept_of l)) (after_command f deadline image drives unit most entries c l)
  near-command entries (Step count) l = near-gone (states_of_activities f count l.machine) l
  near-command entries (Go until) l = near-gone (states_of_run f l.breaks until l.machine) l
  near-command entries (Break addr) l = let h = near-first l in record { number = refl; from = refl; machine = refl; over = refl; breaks = refl; past = h.past; begun = h.begun; text = h.text; pauses = h.pauses }
  near-command entries Registers l = near-says l.text l.pauses (text_of (register_lines l.machine)) (text_of (register_lines l.machine)) (kept_of l) l refl (near-first l)
  near-command entries (Show from count) l = near-says l.text l.pauses (memory_lines f l.machine from count) (memory_lines f l.machine from count) (kept_of l) l refl (near-first l)
  near-command entries (Write addr value) l = let h = near-first l in record { number = refl; from = refl; machine = refl; over = refl; breaks = refl; past = h.past; begun = h.begun; text = h.text; pauses = h.pauses }
  near-command entries History l =
      let all = past-alike (keep_last 32 l.past) l.past l.number l.machine.under_way (keep_last 33 l.begun) l.begun (last-same 32 l.past) (last-same 33 l.begun) in
      near-says l.text l.pauses (history entries (kept_of l)) (history entries l) (kept_of l) l (ap (flat_map (activity_line entries)) all) (near-first l)
  near-command entries Quit l = near-first l
