use Rattle.std.proofs.Common.{◌&&◌, ◌∙◌}
use Rattle.kc_base.specs.Bits.{bit}
use Rattle.kc_base.specs.declared.types.Kind.TheVariants.{BadWindow, FastTimer2}
use Rattle.kc_exec_spec.specs.Window.{is_wsr}
use Rattle.kc_hso.specs.Cam.{has_timer2_of}
use Rattle.kc_block_units.specs.Scheduler.{shown_units}
use Rattle.kc_block_units.specs.Standing.{standing}
use Rattle.kc_block_sfr.proofs.Outcomes.{plain_refusal, refusal_if, refusal_if_not}
use Rattle.kc_block_sfr.proofs.writing.byte_refusal.Goals as goal

pub returns-in-Wsr : goal.returns-in-Wsr
returns-in-Wsr g c = rw c.in-Wsr.is (c.wsr_refusal.ensures ∙ refusal_if_not (is_wsr c.args.value) _ BadWindow)

pub returns-in-Ioc2 : goal.returns-in-Ioc2
returns-in-Ioc2 g c =
    let u = shown_units g.X.Extra.further (standing g.X.Extra.plain c.args.scheduler.now) c.args.now in
    rw c.in-Ioc2.is (c.ioc2_refusal.ensures ∙ refusal_if (bit c.args.value 0 && has_timer2_of u.hso) _ FastTimer2)

pub returns-in_default : goal.returns-in_default
returns-in_default g c =
    let u = shown_units g.X.Extra.further (standing g.X.Extra.plain c.args.scheduler.now) c.args.now in
    plain_refusal u c.args.register c.args.value c.in_default.not-Wsr c.in_default.not-Ioc2
