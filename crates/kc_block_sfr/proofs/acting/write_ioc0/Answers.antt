use Rattle.std.proofs.Common.{false, true, Bool, ◌<◌, refl, ap, arith}
use Rattle.kc_base.specs.Bits.{bit}
use Rattle.kc_timers.specs.T2.{T2}
use Rattle.kc_block_spec.specs.Writing.{reset_by}
use Rattle.std.specs.Prelude.{bit_and, if◌then◌else◌}
use Rattle.kc_block_sfr.proofs.Acts.{timers_act}
use Rattle.kc_block_sfr.proofs.acting.write_ioc0.Goals as goal

reset_fits : (b : Bool) (t : T2) → t.value < 65536 → (if b then record t { value = 0 } else t).value < 65536
reset_fits true t fits = omega arith
reset_fits false t fits = fits

pub returns-clause-left : goal.returns-clause-left
returns-clause-left g c =
    timers_act g.X.Extra.further g.X.Extra.agrees g.X.Extra.plain c.args.scheduler.now c.catch_up_timers.new.self c.ask_timers.new.self c.args.now
    (λ s. record s { ioc0 = bit_and c.args.value 0xFD }) (reset_by c.args.value) (λ d. d)
    c.board_registers_with-scheduler.result c.reset_by.new.timer c.catch_up_timers.new.self.hso.unit
    (record { scheduled = c.catch_up_timers.ensures.left.scheduled; shows = c.catch_up_timers.ensures.left.shows }) c.catch_up_timers.ensures.standing
    (λ s. refl) c.board_registers_with-scheduler.ensures (ap (λ u. u.inner) c.reset_by.ensures) (reset_fits (bit c.args.value 1) c.catch_up_timers.new.self.timer2.unit.inner c.catch_up_timers.ensures.left.scheduled.value)
    refl (λ d. refl) c.ask_timers.ensures.rest c.ask_timers.ensures.others c.ask_timers.ensures.timer2 c.ask_timers.ensures.hso
