-- A converter by itself: a quiet span leaves it as it is, and it is due when its conversion ends.
use Rattle.std.proofs.Common.{◌≡◌, ℕ, zero, suc, ◌+◌, ◌-◌, ◌<◌, ◌≤◌, Bool, true, false, not, refl, sym, ◌∙◌, ap, arith, Some, None, []}
use Rattle.std.specs.Prelude.{if◌then◌else◌}
use Rattle.std.proofs.lemmas.Bool.{ne_eqb, eq-eqb, not-true, not_from_false}
use Rattle.kc_span.specs.Span.{Rule, after, QuietFor, DueAt, Counted}
use Rattle.kc_span.proofs.SpanLaws.{after-zero, after-suc}
use Rattle.kc_extra.specs.Further.{further_rule, is_silent}
use Rattle.kc_convert.specs.Converting.{Converting, conversion_time, ends_at, converter_out, sample_of, converter_further}

abbrev pub converter_rule : Rule (Counted Converting)
converter_rule = further_rule converter_further.rest converter_further.rest_out

-- a state is quiet where no conversion ends
silent : (t : ℕ) (d : Converting) → is_silent (converter_out t d) ≡ not (ends_at t d.begun)
silent t d = by (ends_at t d.begun)
  where
    by : (b : Bool) → is_silent (record { raised = record { 0 = if b then 2 else 0 }; moved = [] }) ≡ not b
    by true = refl
    by false = refl

still_step : (t : ℕ) (d : Counted Converting) → ends_at t d.inner.begun ≡ false → converter_rule.step t d ≡ d
still_step t d off = ap (λ b. record d { inner = if b then record d.inner { begun = None; result = sample_of d.inner d.inner.begun } else d.inner }) off

still_after : (from n : ℕ) (d : Counted Converting) → ((k : ℕ) → k < n → ends_at (from + k) d.inner.begun ≡ false) → after converter_rule from n d ≡ d
still_after from zero d off = after-zero converter_rule from d
still_after from (suc n) d off =
    after-suc converter_rule from n d
    ∙ ap (converter_rule.step (from + n)) (still_after from n d (λ k lt. off k (omega arith)))
    ∙ still_step (from + n) d (off n (omega arith))

still_quiet : (from n : ℕ) (d : Counted Converting) → ((k : ℕ) → k < n → ends_at (from + k) d.inner.begun ≡ false) → QuietFor converter_rule from n d
still_quiet from n d off k lt =
    ap (converter_rule.quiet (from + k)) (still_after from k d (λ j less. off j (omega arith)))
    ∙ silent (from + k) d.inner
    ∙ not_from_false (ends_at (from + k) d.inner.begun) (off k lt)

-- what a quiet span leaves
pub quiet_after : (from n : ℕ) (d : Counted Converting) → QuietFor converter_rule from n d → after converter_rule from n d ≡ d
quiet_after from zero d quiet = after-zero converter_rule from d
quiet_after from (suc n) d quiet =
    let same : after converter_rule from n d ≡ d = quiet_after from n d (λ k lt. quiet k (omega arith)) in
    let last : not (ends_at (from + n) d.inner.begun) ≡ true =
    sym (silent (from + n) d.inner) ∙ sym (ap (converter_rule.quiet (from + n)) same) ∙ quiet n (omega arith) in
    after-suc converter_rule from n d
    ∙ ap (converter_rule.step (from + n)) same
    ∙ still_step (from + n) d (not-true (ends_at (from + n) d.inner.begun) last)

ends_later : (s t : ℕ) → t < s + conversion_time → ends_at t (Some s) ≡ false
ends_later s t lt = ne_eqb t (s + conversion_time) (λ e. omega arith)

ends_past : (s t : ℕ) → s + conversion_time < t → ends_at t (Some s) ≡ false
ends_past s t lt = ne_eqb t (s + conversion_time) (λ e. omega arith)

-- nothing is under way, or its end is past
pub never_due : (now : ℕ) (d : Counted Converting) → d.inner.begun ≡ None → (n : ℕ) → QuietFor converter_rule now n d
never_due now d none n = still_quiet now n d (λ k lt. ap (ends_at (now + k)) none)

pub past_due : (now s : ℕ) (d : Counted Converting) → d.inner.begun ≡ Some s → s + conversion_time < now → (n : ℕ) → QuietFor converter_rule now n d
past_due now s d is past n = still_quiet now n d (λ k lt. ap (ends_at (now + k)) is ∙ ends_past s (now + k) (omega arith))

pub conversion_due : (now s : ℕ) (d : Counted Converting) → d.inner.begun ≡ Some s → now ≤ s + conversion_time → DueAt converter_rule now d (s + conversion_time)
conversion_due now s d is le =
    let sooner : (k : ℕ) → k < s + conversion_time - now → ends_at (now + k) d.inner.begun ≡ false =
    λ k lt. ap (ends_at (now + k)) is ∙ ends_later s (now + k) (omega arith) in
    record {
      later = le;
      before = still_quiet now (s + conversion_time - now) d sooner;
      active =
          ap (converter_rule.quiet (s + conversion_time)) (still_after now (s + conversion_time - now) d sooner)
          ∙ silent (s + conversion_time) d.inner
          ∙ ap not (ap (ends_at (s + conversion_time)) is ∙ eq-eqb (s + conversion_time) (s + conversion_time) refl);
    }
