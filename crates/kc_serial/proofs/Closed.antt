-- A rule that goes on by a closed form as long as it is quiet.
use Rattle.std.proofs.Common.{◌≡◌, ℕ, zero, suc, ◌+◌, ◌-◌, ◌<◌, Bool, true, sym, ◌∙◌, ap, subst, arith, inl, inr, Option, Some, None}
use Rattle.std.specs.Option.{option_map}
use Rattle.std.proofs.lemmas.Bool.{cases_lt}
use Rattle.kc_span.specs.Span.{Rule, after, QuietFor, IsDue}
use Rattle.kc_span.proofs.SpanLaws.{after-zero, after-suc}
use Rattle.kc_serial.specs.Quiet.{Before}

module _ {D : Type 0} (rule : Rule D) (older : ℕ → D → D) (d : D) (quiet : ℕ → Bool)
    (start : older 0 d ≡ d)
    (known : (t k : ℕ) → rule.quiet t (older k d) ≡ quiet k)
    (next : (t k : ℕ) → quiet k ≡ true → rule.step t (older k d) ≡ older (suc k) d) where
  pub closed : (from n : ℕ) → ((k : ℕ) → k < n → quiet k ≡ true) → after rule from n d ≡ older n d
  closed from zero q = after-zero rule from d ∙ sym start
  closed from (suc n) q =
      after-suc rule from n d ∙ ap (rule.step (from + n)) (closed from n (λ k lt. q k (omega arith))) ∙ next (from + n) n (q n (omega arith))

  pub quiet_ages : (from n : ℕ) → ((k : ℕ) → k < n → quiet k ≡ true) → QuietFor rule from n d
  quiet_ages from n q k lt = ap (rule.quiet (from + k)) (closed from k (λ j less. q j (omega arith))) ∙ known (from + k) k ∙ q k lt

  pub ages_quiet : (from n : ℕ) → QuietFor rule from n d → (k : ℕ) → k < n → quiet k ≡ true
  ages_quiet from zero q k lt = absurd (omega arith)
  ages_quiet from (suc n) q k lt =
      let before : (j : ℕ) → j < n → quiet j ≡ true = ages_quiet from n (λ j less. q j (omega arith)) in
      let last : quiet n ≡ true = sym (known (from + n) n) ∙ sym (ap (rule.quiet (from + n)) (closed from n before)) ∙ q n (omega arith) in
      elim (cases_lt k n) [
        | inl less ↦ before k less
        | inr ge ↦ let same : n ≡ k = omega arith in subst (λ j. quiet j ≡ true) same last
      ]

  pub closed_quiet : (from n : ℕ) → QuietFor rule from n d → after rule from n d ≡ older n d
  closed_quiet from n q = closed from n (ages_quiet from n q)

  pub due_from : (from : ℕ) (left : Option ℕ) → Before quiet left → IsDue rule from d (option_map (λ n. from + n) left)
  due_from from None q = λ n. quiet_ages from n (λ k lt. q k)
  due_from from (Some n) q =
      let span : from + n - from ≡ n = omega arith in
      record {
        later = omega arith;
        before = subst (λ m. QuietFor rule from m d) (sym span) (quiet_ages from n q.0);
        active =
            ap (λ m. rule.quiet (from + n) (after rule from m d)) span
            ∙ ap (rule.quiet (from + n)) (closed from n q.0)
            ∙ known (from + n) n
            ∙ q.1;
      }
