use Rattle.std.proofs.Common.{◌≡◌, Bool, true, false, refl, sym, ◌∙◌, ap, subst}
use Rattle.std.specs.Prelude.{bit_xor}
use Rattle.kc_base.specs.Bits.{bit}
use Rattle.kc_base.specs.Levels.{is_high, level_of}
use Rattle.kc_extra.proofs.Pairs.{same_pair}
use Rattle.kc_base.specs.Pins.{rxd}
use Rattle.kc_serial.specs.Port.{Keeps, start}
use Rattle.kc_serial.specs.declared.serial.Serial.{Serial}
use Rattle.kc_block_spec.specs.Levels.{stimulated_before}
use Rattle.kc_kit_running.specs.Fitted.{units_at}
use Rattle.kc_kit_running.proofs.fitted.fitted_unit.Goals as goal

high_again : (high : Bool) → high ≡ is_high (level_of high)
high_again true = refl
high_again false = refl

pub returns-clause-unit : goal.returns-clause-unit
returns-clause-unit c =
    let unit = units_at c.args.stimuli.now c.args.values c.args.from in
    let analog = same_pair c.of-analog.result unit.second (c.of-analog.ensures.first ∙ c.new.ensures) (c.of-analog.ensures.second ∙ c.new-2.ensures) c.of-analog.ensures.moves in
    same_pair c.of.result unit (c.of.ensures.first ∙ (c.new-3.ensures.start ∙ ap start c.rxd_level.ensures)) (c.of.ensures.second ∙ analog) c.of.ensures.moves

-- the port keeps the level of RXD before state 0, the other units keep none
pub returns-clause-agrees : goal.returns-clause-agrees
returns-clause-agrees c = λ edges.
    let before = stimulated_before c.args.stimuli.now 0 in (
      subst (λ (port : Serial). Keeps edges (bit_xor before edges) port) (sym c.of.ensures.first)
          (c.new-3.ensures.keeps before edges (high_again (bit before rxd) ∙ ap is_high (sym c.rxd_level.ensures))),
      (tt, tt),
    )
