-- What a machine shows that has ended.
use Rattle.std.proofs.Common.{◌≡◌, inl, ℕ, zero, suc, ◌+◌, ◌-◌, ◌≤◌, Option, Some, None, refl, sym, ◌∙◌, ap, arith}
use Rattle.kc_extra.specs.Further.{Further}
use Rattle.kc_machine_spec.specs.declared.doing.End.{End}
use Rattle.kc_machine_spec.specs.Machine.{Machine, Stepped}
use Rattle.kc_machine_spec.specs.Run.{run_for, run_to}
use Rattle.kc_machine_spec.proofs.Runs.{run_for-add, run_for-ended}
use Rattle.kc_cycles.proofs.Going.{Feeds, run-time}
use Rattle.kc_profile.specs.Sights.{history, sight_of, unless_ended}

module _ {X : Type 0} (f : Further X) where
  ended-stays : (t k : ℕ) (m : Machine X) (how : End) → (run_for f t m).machine.ended ≡ Some how → (run_for f (t + k) m).machine ≡ (run_for f t m).machine
  ended-stays t k m how e = ap (λ (s : Stepped X). s.machine) (run_for-add f t k m) ∙ ap (λ (s : Stepped X). s.machine) (run_for-ended f k (run_for f t m).machine how e)

  history-ended : (t k : ℕ) (m : Machine X) (how : End) → (run_for f t m).machine.ended ≡ Some how → history f (t + k) m ≡ history f t m
  unfolding history
  history-ended t zero m how e = let none : t + 0 ≡ t = omega arith in ap (λ n. history f n m) none
  history-ended t (suc k) m how e =
      let more : t + suc k ≡ suc (t + k) = omega arith in
      let over : (run_for f (t + k) m).machine.ended ≡ Some how = ap (λ (n : Machine X). n.ended) (ended-stays t k m how e) ∙ e in
      ap (λ n. history f n m) more ∙ ap (λ o. unless_ended o (sight_of f (run_for f (t + k) m).machine) (history f (t + k) m)) over ∙ history-ended t k m how e

  -- there is no deadline
  never : Feeds (λ (x : X). None) f
  never = record { of_tick = λ t l e x. inl refl; of_start = λ t x. inl refl; of_read = λ w s t x. inl refl; of_write = λ w s v t x. inl refl }

  pub history-all : (states : ℕ) (m n : Machine X) → m.time ≡ 0 → n ≡ (run_to f states m).machine → n ≡ (run_to f n.time m).machine → n.time ≤ states → history f states m ≡ history f n.time m
  history-all states m n start is stands within = by n.ended refl
    where
      there : (run_for f n.time m).machine ≡ n
      there = let from : n.time ≡ n.time - m.time = omega (arith, start) in ap (λ k. (run_for f k m).machine) from ∙ sym stands

      by : (o : Option End) → n.ended ≡ o → history f states m ≡ history f n.time m
      by (Some how) e =
          let sum : states ≡ n.time + (states - n.time) = omega (arith, within) in
          ap (λ k. history f k m) sum ∙ history-ended n.time (states - n.time) m how (ap (λ (k : Machine X). k.ended) there ∙ e)
      by None e =
          let lives = ap (λ (k : Machine X). k.ended) (sym is) ∙ e in
          let time = run-time f (λ (x : X). None) never (states - m.time) m lives in
          let same : n.time ≡ states = omega (arith, ap (λ (k : Machine X). k.time) is, time, start, within) in
          ap (λ k. history f k m) (sym same)
