use Rattle.std.proofs.Common.{◌≡◌, ℕ, zero, suc, refl, ap, ◌∙◌}
use Rattle.kc_span.specs.Span.{after}
use Rattle.kc_span.proofs.SpanLaws.{after-zero, after-suc}
use Rattle.kc_extra.specs.Further.{further_rule}
use Rattle.kc_serial.specs.Unit.{serial_further}
use Rattle.kc_serial.specs.declared.serial.Serial.{Serial}
use Rattle.kc_unit_tests.proofs.serial.Wired.goes_on.Goals as goal

-- states without an edge keep the level of RXD
level_stays : (from n : ℕ) (d : Serial) → (after (further_rule serial_further.rest serial_further.rest_out) from n d).rxd ≡ d.rxd
level_stays from zero d = rw after-zero refl
level_stays from (suc n) d = rw after-suc (level_stays from n d)

pub invariant_of-self : goal.invariant_of-self
invariant_of-self g c = record {
  kept = ap (λ (d : Serial). d.rxd) c.quiet_to.ensures.plain ∙ level_stays c.args.now _ _ ∙ c.args.self.now.kept;
}
