use Rattle.std.proofs.Common.{false, true, Bool, ◌≡◌, refl, ap}
use Rattle.kc_base.specs.Bits.{bit}
use Rattle.kc_hso.specs.Cam.{Cam}
use Rattle.kc_block_spec.specs.Writing.{emptied_by}
use Rattle.std.specs.Prelude.{bit_and, if◌then◌else◌}
use Rattle.kc_hso.specs.Cam.{emptied}
use Rattle.kc_block_sfr.proofs.Acts.{timers_act}
use Rattle.kc_block_sfr.proofs.acting.write_ioc2.Goals as goal

emptied_latches : (b : Bool) (d : Cam) → (if b then emptied d else d).latches ≡ d.latches
emptied_latches true d = refl
emptied_latches false d = refl

pub returns-clause-left : goal.returns-clause-left
returns-clause-left g c =
    timers_act g.X.Extra.further g.X.Extra.agrees g.X.Extra.plain c.args.scheduler.now c.catch_up_timers.new.self c.ask_timers.new.self c.args.now
    (λ s. record s { ioc2 = bit_and c.args.value 0x7F }) (λ t. t) (emptied_by c.args.value)
    c.board_registers_with-scheduler.result c.catch_up_timers.new.self.timer2.unit c.empty_by.new.hso
    (record { scheduled = c.catch_up_timers.ensures.left.scheduled; shows = c.catch_up_timers.ensures.left.shows }) c.catch_up_timers.ensures.standing
    (λ s. refl) c.board_registers_with-scheduler.ensures refl c.catch_up_timers.ensures.left.scheduled.value
    (ap (λ u. u.inner) c.empty_by.ensures) (emptied_latches (bit c.args.value 7)) c.ask_timers.ensures.rest c.ask_timers.ensures.others c.ask_timers.ensures.timer2 c.ask_timers.ensures.hso
