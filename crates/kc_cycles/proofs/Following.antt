-- Lives one after the other: some of them, each with the line after it, and then those from a state on.
use Rattle.std.proofs.Common.{◌≡◌, ℕ, zero, suc, ◌+◌, ◌-◌, ◌*◌, ◌<◌, ◌≤◌, Bool, true, false, ◌&&◌, List, [], ◌∷◌, ◌++◌, length, take, Option, Ok, Err, refl, sym, ◌∙◌, ap, subst, append_assoc, append-nil, length-append, arith}
use Rattle.std.specs.Prelude.{if◌then◌else◌, flat_map, nat_lt}
use Rattle.std.proofs.lemmas.Bool.Decides.{nat_tests}
use Rattle.std.proofs.lemmas.Grind.{flat_map-append}
use Rattle.kc_stim.specs.Drives.{Drives}
use Rattle.kc_extra.specs.Further.{Further}
use Rattle.kc_trace.specs.Out.{Out, Puts}
use Rattle.kc_trace.specs.Text.{text_of}
use Rattle.kc_trace.proofs.Outs.{Puts-nothing, Puts-append, Puts-longer}
use Rattle.kc_trace.proofs.Printed.{text_of-append}
use Rattle.kc_machine_spec.specs.declared.doing.End.{End}
use Rattle.kc_machine_spec.specs.Text.{finals}
use Rattle.kc_cycles.specs.declared.lives.LivesFault.TheVariants as fault
use Rattle.kc_cycles.specs.Life.{Life}
use Rattle.kc_cycles.specs.Lives.{is_reset, life_from, lives_from, restart_line, followed_text, last_text, lives_text, last_end, lives_touch, AreReported}

touch-none : (X : Type 0) → lives_touch {X = X} [] ≡ 0
unfolding lives_touch
touch-none X = refl

module _ {X : Type 0} where
  text-one : (life : Life X) → lives_text (life ∷ []) ≡ last_text life
  unfolding lives_text
  text-one life = refl

  text-more : (life next : Life X) (others : List (Life X)) → lives_text (life ∷ next ∷ others) ≡ followed_text life ++ lives_text (next ∷ others)
  unfolding lives_text
  text-more life next others = refl

  -- a life after others
  pub text-append : (few : List (Life X)) (life : Life X) (others : List (Life X)) → lives_text (few ++ life ∷ others) ≡ flat_map followed_text few ++ lives_text (life ∷ others)
  text-append [] life others = refl
  text-append (first ∷ []) life others = text-more first life others ∙ ap (λ xs. xs ++ lives_text (life ∷ others)) (sym (append-nil (followed_text first)))
  text-append (first ∷ second ∷ few) life others =
      text-more first second (few ++ life ∷ others)
      ∙ ap (λ xs. followed_text first ++ xs) (text-append (second ∷ few) life others)
      ∙ sym (append_assoc (followed_text first) (flat_map followed_text (second ∷ few)) (lives_text (life ∷ others)))

  -- each text begins with the records of the life
  pub text-begins : (life : Life X) (others : List (Life X)) → (rest : List ℕ) × (lives_text (life ∷ others) ≡ text_of life.ran.records ++ rest)
  text-begins life [] = (text_of (finals life.how life.ran.machine), text-one life ∙ text_of-append life.ran.records (finals life.how life.ran.machine))
  text-begins life (next ∷ others) =
      let line : List ℕ = restart_line (life.ran.machine.time - 1) life.by_watchdog in
      (line ++ lives_text (next ∷ others), text-more life next others ∙ append_assoc (text_of life.ran.records) line (lives_text (next ∷ others)))

  pub end-append : (few : List (Life X)) (life : Life X) → last_end (few ++ life ∷ []) ≡ life.how
  unfolding last_end
  end-append [] life = refl
  end-append (first ∷ []) life = refl
  end-append (first ∷ second ∷ few) life = end-append (second ∷ few) life

  pub touch-append : (few others : List (Life X)) → lives_touch (few ++ others) ≡ lives_touch few + lives_touch others
  unfolding lives_touch
  touch-append [] others = let e : lives_touch others ≡ 0 + lives_touch others = omega arith in e
  touch-append (first ∷ few) others =
      let rest = touch-append few others in
      let e : first.ran.touch + lives_touch (few ++ others) ≡ (first.ran.touch + lives_touch few) + lives_touch others = omega (arith, rest) in e

  touch-one : (life : Life X) (others : List (Life X)) → lives_touch (life ∷ others) ≡ life.ran.touch + lives_touch others
  unfolding lives_touch
  touch-one life others = refl

  take-all : (few others : List (Life X)) → take (length few) (few ++ others) ≡ few
  take-all [] others = refl
  take-all (first ∷ few) others = ap (λ xs. first ∷ xs) (take-all few others)

  -- ---- some lives are reported, and the others are these

  pub record Reported (all : List (Life X)) (o0 : Out) (s0 : ℕ) (others : List (Life X)) (o : Out) (s : ℕ) : Type 0 where
    pub few : List (Life X)
    pub are : all ≡ few ++ others
    pub lines : Puts o0 (flat_map followed_text few) o
    pub spent : s ≤ s0 + 4 * lives_touch few

  pub reported-first : (all : List (Life X)) (o : Out) (s : ℕ) → Reported all o s all o s
  reported-first all o s = record { few = []; are = refl; lines = Puts-nothing o; spent = omega arith }

  -- one life more, with the line after it
  pub reported-next : (all : List (Life X)) (o0 : Out) (s0 : ℕ) (life : Life X) (others : List (Life X)) (o : Out) (s : ℕ) (mid p : Out) (t : ℕ) → Reported all o0 s0 (life ∷ others) o s →
      Puts o (text_of life.ran.records) mid → Puts mid (restart_line (life.ran.machine.time - 1) life.by_watchdog) p → t ≤ s + 4 * life.ran.touch → Reported all o0 s0 others p t
  reported-next all o0 s0 life others o s mid p t reported lines line spent =
      let cost = touch-append reported.few (life ∷ []) in
      let one = touch-one life [] in
      let none = touch-none X in
      record {
        few = reported.few ++ life ∷ [];
        are = reported.are ∙ sym (append_assoc reported.few (life ∷ []) others);
        lines = subst (λ text. Puts o0 text p)
            (ap (λ xs. flat_map followed_text reported.few ++ xs) (sym (append-nil (followed_text life))) ∙ sym (flat_map-append followed_text reported.few (life ∷ [])))
            (Puts-append o0 (flat_map followed_text reported.few) o (followed_text life) p reported.lines (Puts-append o (text_of life.ran.records) mid (restart_line (life.ran.machine.time - 1) life.by_watchdog) p lines line));
        spent = omega (arith, cost, one, none, reported.spent, spent);
      }

  -- memory runs out for the next
  pub reported-wanting : (all : List (Life X)) (o0 : Out) (s0 : ℕ) (life : Life X) (others : List (Life X)) (o : Out) (s : ℕ) → Reported all o0 s0 (life ∷ others) o s → o.failed ≡ false → AreReported all o0 (Err fault.NoMemory) o
  reported-wanting all o0 s0 life others o s reported unbroken =
      let many = ap length reported.are ∙ length-append reported.few (life ∷ others) in (
        length reported.few,
        omega (arith, many),
        subst (λ xs. Puts o0 (flat_map followed_text xs) o) (sym (ap (take (length reported.few)) reported.are ∙ take-all reported.few (life ∷ others))) reported.lines,
        unbroken,
      )

  reported-lines : (all : List (Life X)) (o0 : Out) (s0 : ℕ) (life : Life X) (others : List (Life X)) (o : Out) (s : ℕ) (p : Out) → Reported all o0 s0 (life ∷ others) o s → Puts o (lives_text (life ∷ others)) p → Puts o0 (lives_text all) p
  reported-lines all o0 s0 life others o s p reported lines =
      subst (λ text. Puts o0 text p) (sym (text-append reported.few life others) ∙ ap lives_text (sym reported.are))
      (Puts-append o0 (flat_map followed_text reported.few) o (lives_text (life ∷ others)) p reported.lines lines)

  -- the sink has failed in the records of a life
  pub reported-cut : (all : List (Life X)) (o0 : Out) (s0 : ℕ) (life : Life X) (others : List (Life X)) (o : Out) (s : ℕ) (p : Out) → Reported all o0 s0 (life ∷ others) o s → Puts o (text_of life.ran.records) p → p.failed ≡ true → AreReported all o0 (Err fault.WriteFault) p
  reported-cut all o0 s0 life others o s p reported lines failed =
      let begins = text-begins life others in
      (reported-lines all o0 s0 life others o s p reported (subst (λ text. Puts o text p) (sym begins.1) (Puts-longer o (text_of life.ran.records) begins.0 p failed lines)), failed)

  -- and in the line after it
  pub reported-cut_line : (all : List (Life X)) (o0 : Out) (s0 : ℕ) (life next : Life X) (others : List (Life X)) (o : Out) (s : ℕ) (mid p : Out) → Reported all o0 s0 (life ∷ next ∷ others) o s →
      Puts o (text_of life.ran.records) mid → Puts mid (restart_line (life.ran.machine.time - 1) life.by_watchdog) p → p.failed ≡ true → AreReported all o0 (Err fault.WriteFault) p
  reported-cut_line all o0 s0 life next others o s mid p reported lines line failed = (
    reported-lines all o0 s0 life (next ∷ others) o s p reported
        (subst (λ text. Puts o text p) (sym (text-more life next others))
        (Puts-longer o (followed_text life) (lives_text (next ∷ others)) p failed (Puts-append o (text_of life.ran.records) mid (restart_line (life.ran.machine.time - 1) life.by_watchdog) p lines line))),
    failed,
  )

  reported-last_lines : (all : List (Life X)) (o0 : Out) (s0 : ℕ) (life : Life X) (o : Out) (s : ℕ) (mid p : Out) → Reported all o0 s0 (life ∷ []) o s →
      Puts o (text_of life.ran.records) mid → Puts mid (text_of (finals life.how life.ran.machine)) p → Puts o0 (lives_text all) p
  reported-last_lines all o0 s0 life o s mid p reported lines last =
      reported-lines all o0 s0 life [] o s p reported
      (subst (λ text. Puts o text p) (sym (text_of-append life.ran.records (finals life.how life.ran.machine)) ∙ sym (text-one life))
      (Puts-append o (text_of life.ran.records) mid (text_of (finals life.how life.ran.machine)) p lines last))

  -- all are reported
  pub reported-last : (all : List (Life X)) (o0 : Out) (s0 : ℕ) (life : Life X) (o : Out) (s : ℕ) (mid p : Out) (how : End) → Reported all o0 s0 (life ∷ []) o s →
      Puts o (text_of life.ran.records) mid → Puts mid (text_of (finals life.how life.ran.machine)) p → p.failed ≡ false → how ≡ life.how → AreReported all o0 (Ok how) p
  reported-last all o0 s0 life o s mid p how reported lines last unbroken is =
      (is ∙ sym (end-append reported.few life) ∙ ap last_end (sym reported.are), reported-last_lines all o0 s0 life o s mid p reported lines last, unbroken)

  pub reported-cut_last : (all : List (Life X)) (o0 : Out) (s0 : ℕ) (life : Life X) (o : Out) (s : ℕ) (mid p : Out) → Reported all o0 s0 (life ∷ []) o s →
      Puts o (text_of life.ran.records) mid → Puts mid (text_of (finals life.how life.ran.machine)) p → p.failed ≡ true → AreReported all o0 (Err fault.WriteFault) p
  reported-cut_last all o0 s0 life o s mid p reported lines last failed = (reported-last_lines all o0 s0 life o s mid p reported lines last, failed)

  -- the calls of all
  pub reported-spent : (all : List (Life X)) (o0 : Out) (s0 : ℕ) (others : List (Life X)) (o : Out) (s : ℕ) → Reported all o0 s0 others o s → s ≤ s0 + 4 * lives_touch all
  reported-spent all o0 s0 others o s reported =
      let cost = ap lives_touch reported.are ∙ touch-append reported.few others in
      omega (arith, cost, reported.spent)

  pub reported-spent_more : (all : List (Life X)) (o0 : Out) (s0 : ℕ) (life : Life X) (others : List (Life X)) (o : Out) (s t : ℕ) → Reported all o0 s0 (life ∷ others) o s → t ≤ s + 4 * life.ran.touch → t ≤ s0 + 4 * lives_touch all
  reported-spent_more all o0 s0 life others o s t reported spent =
      let cost = ap lives_touch reported.are ∙ touch-append reported.few (life ∷ others) in
      let one = touch-one life others in
      omega (arith, cost, one, reported.spent, spent)

module _ {X : Type 0} (f : Further X) (deadline : X → Option ℕ) (image : List ℕ) (drives : Drives) (unit : ℕ → X) (until : ℕ) where
  -- the lives from a state on, by the first of them
  abbrev pub from_now : ℕ → ℕ → List (Life X)
  from_now left from = lives_from f deadline image drives unit until left from

  abbrev pub life_at : ℕ → Life X
  life_at from = life_from f deadline image drives unit until from

  pub lives-some : (left from : ℕ) → 1 ≤ left → (others : List (Life X)) × (from_now left from ≡ life_at from ∷ others)
  unfolding lives_from
  lives-some zero from some = absurd (omega arith)
  lives-some (suc more) from some =
      (if is_reset (life_at from).how then from_now more (from + (life_at from).ran.machine.time) else [], refl)

  by_first : (left from : ℕ) → 1 ≤ left → from_now left from ≡ life_at from ∷ (if is_reset (life_at from).how then from_now (left - 1) (from + (life_at from).ran.machine.time) else [])
  unfolding lives_from
  by_first zero from some = absurd (omega arith)
  by_first (suc more) from some =
      let e : more ≡ suc more - 1 = omega arith in
      ap (λ k. life_at from ∷ (if is_reset (life_at from).how then from_now k (from + (life_at from).ran.machine.time) else [])) e

  lives-none : (from : ℕ) → from_now 0 from ≡ []
  unfolding lives_from
  lives-none from = refl

  -- another life follows
  pub lives-followed : (left from : ℕ) → is_reset (life_at from).how ≡ true → 1 < left → from_now left from ≡ life_at from ∷ from_now (left - 1) (from + (life_at from).ran.machine.time)
  lives-followed left from reset more =
      by_first left from (omega arith) ∙ ap (λ (b : Bool). life_at from ∷ (if b then from_now (left - 1) (from + (life_at from).ran.machine.time) else [])) reset

  -- and none does
  pub lives-last : (left from : ℕ) → 1 ≤ left → (is_reset (life_at from).how && nat_lt 1 left) ≡ false → from_now left from ≡ life_at from ∷ []
  lives-last left from some last = by_reset (is_reset (life_at from).how) refl
    where
      few_left : (n : ℕ) → 1 ≤ n → nat_lt 1 n ≡ false → n - 1 ≡ 0
      few_left n h e = grind (arith, nat_tests)

      by_reset : (b : Bool) → is_reset (life_at from).how ≡ b → from_now left from ≡ life_at from ∷ []
      by_reset false e = by_first left from some ∙ ap (λ (b : Bool). life_at from ∷ (if b then from_now (left - 1) (from + (life_at from).ran.machine.time) else [])) e
      by_reset true e =
          let few : nat_lt 1 left ≡ false = ap (λ b. b && nat_lt 1 left) (sym e) ∙ last in
          let one : left - 1 ≡ 0 = few_left left some few in
          by_first left from some
          ∙ ap (λ (b : Bool). life_at from ∷ (if b then from_now (left - 1) (from + (life_at from).ran.machine.time) else [])) e
          ∙ ap (λ k. life_at from ∷ from_now k (from + (life_at from).ran.machine.time)) one
          ∙ ap (λ xs. life_at from ∷ xs) (lives-none (from + (life_at from).ran.machine.time))
