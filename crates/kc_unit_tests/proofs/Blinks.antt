-- A beacon by itself: what a quiet span leaves, and when a period ends.
use Rattle.std.proofs.Common.{◌≡◌, ℕ, zero, suc, ◌+◌, ◌-◌, ◌<◌, ◌==◌, Bool, true, false, not, ◌&&◌, refl, sym, ◌∙◌, ap, arith, inl, inr, []}
use Rattle.std.specs.Prelude.{if◌then◌else◌}
use Rattle.std.proofs.lemmas.Bool.{ne_eqb, cases_lt, cases_eq, false≢true}
use Rattle.kc_span.specs.Span.{Rule, after, QuietFor, DueAt, Counted}
use Rattle.kc_span.proofs.SpanLaws.{after-zero, after-suc}
use Rattle.kc_extra.specs.Further.{further_rule, is_silent}
use Rattle.kc_unit_tests.specs.Blinking.{Blinking, ends, turned, gone_on, out_of, lamps_turned, beacon_further}

abbrev pub beacon_rule : Rule (Counted Blinking)
beacon_rule = further_rule beacon_further.rest beacon_further.rest_out

-- a state is quiet where it does not end a period
silent : (d : Blinking) → is_silent (out_of d) ≡ not (ends d)
silent d = by (ends d)
  where
    by : (b : Bool) → is_silent (record { raised = record { 0 = if b then 64 else 0 }; moved = if b then lamps_turned d else [] }) ≡ not b
    by true = refl
    by false = refl

abbrev with_left : ℕ → Counted Blinking → Counted Blinking
with_left left d = record d { inner = record d.inner { left = left } }

-- a held beacon stays as it is
held_step : (b : Blinking) → b.held ≡ true → gone_on b ≡ b
held_step b is = by b.held is
  where
    by : (h : Bool) → h ≡ true → (if not h && (b.left == 1) then turned b else record b { left = if h then b.left else b.left - 1 }) ≡ b
    by true is = refl
    by false is = absurd (false≢true is)

held_after : (from n : ℕ) (d : Counted Blinking) → d.inner.held ≡ true → after beacon_rule from n d ≡ d
held_after from zero d is = after-zero beacon_rule from d
held_after from (suc n) d is =
    after-suc beacon_rule from n d
    ∙ ap (beacon_rule.step (from + n)) (held_after from n d is)
    ∙ ap (λ b. record d { inner = b }) (held_step d.inner is)

-- one that is free counts down
free_step : (b : Blinking) → b.held ≡ false → (b.left == 1) ≡ false → gone_on b ≡ record b { left = b.left - 1 }
free_step b is other = by b.held (b.left == 1) is other
  where
    by : (h e : Bool) → h ≡ false → e ≡ false → (if not h && e then turned b else record b { left = if h then b.left else b.left - 1 }) ≡ record b { left = b.left - 1 }
    by true e is other = absurd (false≢true (sym is))
    by false true is other = absurd (false≢true (sym other))
    by false false is other = refl

free_after : (from n : ℕ) (d : Counted Blinking) → d.inner.held ≡ false → ((k : ℕ) → k < n → (d.inner.left - k == 1) ≡ false) →
    after beacon_rule from n d ≡ with_left (d.inner.left - n) d
free_after from zero d is other = after-zero beacon_rule from d ∙ ap (λ left. with_left left d) (let e : d.inner.left ≡ d.inner.left - 0 = omega arith in e)
free_after from (suc n) d is other =
    after-suc beacon_rule from n d
    ∙ ap (beacon_rule.step (from + n)) (free_after from n d is (λ k lt. other k (omega arith)))
    ∙ ap (λ b. record d { inner = b }) (free_step (record d.inner { left = d.inner.left - n }) is (other n (omega arith)))
    ∙ ap (λ left. with_left left d) (let e : d.inner.left - n - 1 ≡ d.inner.left - suc n = omega arith in e)

-- before the last state, or where there is no period
sooner : (left n : ℕ) → n < left → (k : ℕ) → k < n → (left - k == 1) ≡ false
sooner left n lt k le = ne_eqb (left - k) 1 (λ e. omega arith)

never : (left : ℕ) → left ≡ 0 → (k : ℕ) → (left - k == 1) ≡ false
never left none k = ne_eqb (left - k) 1 (λ e. omega arith)

quiet_where : (from n : ℕ) (d : Counted Blinking) → d.inner.held ≡ false → ((k : ℕ) → k < n → (d.inner.left - k == 1) ≡ false) → QuietFor beacon_rule from n d
quiet_where from n d is other k lt =
    ap (λ e. beacon_rule.quiet (from + k) e) (free_after from k d is (λ j le. other j (omega arith)))
    ∙ silent (record d.inner { left = d.inner.left - k })
    ∙ ap (λ h. not (not h && (d.inner.left - k == 1))) is
    ∙ ap not (other k lt)

pub held_never : (now : ℕ) (d : Counted Blinking) → d.inner.held ≡ true → (n : ℕ) → QuietFor beacon_rule now n d
held_never now d is n k lt =
    ap (λ e. beacon_rule.quiet (now + k) e) (held_after now k d is)
    ∙ silent d.inner ∙ ap (λ h. not (not h && (d.inner.left == 1))) is

pub over_never : (now : ℕ) (d : Counted Blinking) → d.inner.left ≡ 0 → (n : ℕ) → QuietFor beacon_rule now n d
over_never now d none n = by d.inner.held refl
  where
    by : (h : Bool) → d.inner.held ≡ h → QuietFor beacon_rule now n d
    by true is = held_never now d is n
    by false is = quiet_where now n d is (λ k lt. never d.inner.left none k)

pub beacon_due : (now : ℕ) (d : Counted Blinking) → d.inner.held ≡ false → 0 < d.inner.left → DueAt beacon_rule now d (now + (d.inner.left - 1))
beacon_due now d is some =
    let whole : now + (d.inner.left - 1) - now ≡ d.inner.left - 1 = omega arith in
    let last : (d.inner.left - (d.inner.left - 1) == 1) ≡ true = ap (λ n. n == 1) (let e : d.inner.left - (d.inner.left - 1) ≡ 1 = omega arith in e) in
    record {
      later = omega arith;
      before = rw whole (quiet_where now (d.inner.left - 1) d is (sooner d.inner.left (d.inner.left - 1) (omega arith)));
      active = rw whole (
          ap (λ e. beacon_rule.quiet (now + (d.inner.left - 1)) e) (free_after now (d.inner.left - 1) d is (sooner d.inner.left (d.inner.left - 1) (omega arith)))
          ∙ silent (record d.inner { left = d.inner.left - (d.inner.left - 1) })
          ∙ ap (λ h. not (not h && (d.inner.left - (d.inner.left - 1) == 1))) is
          ∙ ap not last);
    }

-- what a quiet span leaves
pub beacon_held : (now n : ℕ) (d : Counted Blinking) → d.inner.held ≡ true → after beacon_rule now n d ≡ d
beacon_held = held_after

pub beacon_after : (now n : ℕ) (d : Counted Blinking) → d.inner.held ≡ false → QuietFor beacon_rule now n d → after beacon_rule now n d ≡ with_left (d.inner.left - n) d
beacon_after now n d is quiet = free_after now n d is (λ k lt. elim (cases_eq d.inner.left 0) [
  | inl none ↦ never d.inner.left none k
  | inr some ↦ elim (cases_lt (d.inner.left - 1) n) [
    | inl past ↦
        let due = beacon_due now d is (omega (arith, some)) in
        let at : now + (d.inner.left - 1) - now ≡ d.inner.left - 1 = omega arith in
        absurd (false≢true (sym due.active ∙ ap (λ m. beacon_rule.quiet (now + (d.inner.left - 1)) (after beacon_rule now m d)) at ∙ quiet (d.inner.left - 1) past))
    | inr ahead ↦ sooner d.inner.left n (omega (arith, some)) k lt
  ]
])
