-- When a metronome beats next.
use Rattle.std.proofs.Common.{◌≡◌, ℕ, ◌+◌, ◌*◌, ◌/◌, ◌%◌, ◌==◌, Bool, true, false, not, refl, ◌∙◌, ap, arith, [], ◌∷◌}
use Rattle.std.specs.Prelude.{if◌then◌else◌}
use Rattle.std.proofs.lemmas.Bool.{ne_eqb}
use Rattle.kc_span.specs.Span.{Rule, DueAt, after}
use Rattle.kc_span.proofs.SpanLaws.{after-still}
use Rattle.kc_extra.specs.Further.{further_rule, is_silent}
use Rattle.kc_unit_tests.specs.Blinking.{edge_to}
use Rattle.kc_unit_tests.specs.Beating.{beats, beat_of, beat_further}

silent : (t : ℕ) → is_silent (beat_of t) ≡ not (beats t)
silent t = by (beats t) ((t / 1000) % 2 == 0)
  where
    by : (b lit : Bool) → is_silent (record { raised = record { 0 = if b then 512 else 0 }; moved = if b then edge_to 1 lit ∷ [] else [] }) ≡ not b
    by true lit = refl
    by false lit = refl

module _ {X : Type 0} where
  abbrev pub beat_rule : Rule X
  beat_rule = further_rule (beat_further {X = X}).rest (beat_further {X = X}).rest_out

  pub beat_due : (now : ℕ) (d : X) → DueAt beat_rule now d (now / 1000 * 1000 + 999)
  beat_due now d = record {
    later = omega arith;
    before = λ k lt. silent (now + k) ∙ ap not (ne_eqb ((now + k) % 1000) 999 (λ e. omega arith));
    active = silent (now / 1000 * 1000 + 999) ∙ ap (λ n. not (n == 999)) (let e : (now / 1000 * 1000 + 999) % 1000 ≡ 999 = omega arith in e);
  }

  pub beat_after : (now n : ℕ) (d : X) → after beat_rule now n d ≡ d
  beat_after now n d = after-still beat_rule now n d (λ t e. refl)
