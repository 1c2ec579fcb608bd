-- The three pulse-width outputs by themselves: each goes on by its own rule.
use Rattle.std.proofs.Common.{◌≡◌, ℕ, true, ◌&&◌, refl, sym, ◌∙◌, ap, Option, List, [], ◌∷◌, ◌++◌}
use Rattle.kc_span.specs.Span.{Rule, after, IsDue, least_of}
use Rattle.kc_span.proofs.SpanLaws.{after-still}
use Rattle.kc_base.specs.declared.types.Edge.{Edge}
use Rattle.kc_extra.specs.Further.{further_rule, is_silent, is_empty}
use Rattle.kc_extra.specs.Two.{after_part, due_both}
use Rattle.kc_convert.specs.declared.pulses.Output.{Output}
use Rattle.kc_convert.specs.declared.pulses.Pulses.{Pulses}
use Rattle.kc_base.specs.Pins.{pwm0, pwm1, pwm2}
use Rattle.kc_convert.specs.Pulsing.{taken_over, output_edges, output_rule, pulses_further, pulses_out}
use Rattle.kc_convert.specs.PulseSpans.{output_after}
use Rattle.kc_convert.proofs.PulseSpanLaws.{output_spans}

abbrev pub pulses_rule : Rule Pulses
pulses_rule = further_rule pulses_further.rest pulses_further.rest_out

-- the second and the third as one
abbrev others_rule : Rule (Output × Output)
others_rule = record {
  step = λ t o. (taken_over t o.0, taken_over t o.1);
  quiet = λ t o. is_empty (output_edges pwm1 t o.0) && is_empty (output_edges pwm2 t o.1);
}

none_in_both : (xs ys : List Edge) → is_empty (xs ++ ys) ≡ (is_empty xs && is_empty ys)
none_in_both [] ys = refl
none_in_both (x ∷ xs) ys = refl

quiet_all : (t : ℕ) (d : Pulses) →
    is_silent (pulses_out t d) ≡ (is_empty (output_edges pwm0 t d.first) && (is_empty (output_edges pwm1 t d.second) && is_empty (output_edges pwm2 t d.third)))
quiet_all t d =
    none_in_both (output_edges pwm0 t d.first) (output_edges pwm1 t d.second ++ output_edges pwm2 t d.third)
    ∙ ap (λ b. is_empty (output_edges pwm0 t d.first) && b) (none_in_both (output_edges pwm1 t d.second) (output_edges pwm2 t d.third))

pub pulses_due : (now : ℕ) (d : Pulses) (x y z : Option ℕ) → IsDue (output_rule pwm0) now d.first x → IsDue (output_rule pwm1) now d.second y → IsDue (output_rule pwm2) now d.third z →
    IsDue pulses_rule now d (least_of x (least_of y z))
pulses_due now d x y z p q r =
    due_both pulses_rule (output_rule pwm0) others_rule (λ e. e.first) (λ e. (e.second, e.third)) (λ t e. refl) (λ t e. refl) quiet_all now d x (least_of y z) p
    (due_both others_rule (output_rule pwm1) (output_rule pwm2) (λ o. o.0) (λ o. o.1) (λ t o. refl) (λ t o. refl) (λ t o. refl) now (d.second, d.third) y z q r)

-- what a span leaves
pub pulses_after : (from n : ℕ) (d : Pulses) →
    record { first = output_after from n d.first; second = output_after from n d.second; third = output_after from n d.third; moves = d.moves } ≡ after pulses_rule from n d
pulses_after from n d =
    let still : Rule ℕ = record { step = λ t m. m; quiet = λ t m. true } in
    λ i. record {
      first = sym (after_part pulses_rule (output_rule pwm0) (λ e. e.first) (λ t e. refl) from n d ∙ output_spans pwm0 from n d.first) i;
      second = sym (after_part pulses_rule (output_rule pwm1) (λ e. e.second) (λ t e. refl) from n d ∙ output_spans pwm1 from n d.second) i;
      third = sym (after_part pulses_rule (output_rule pwm2) (λ e. e.third) (λ t e. refl) from n d ∙ output_spans pwm2 from n d.third) i;
      moves = sym (after_part pulses_rule still (λ e. e.moves) (λ t e. refl) from n d ∙ after-still still from n d.moves (λ t m. refl)) i;
    }
