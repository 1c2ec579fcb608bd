use Rattle.std.proofs.Common.{refl}
use Rattle.kc_block_sfr.proofs.Acts.{timers_act}
use Rattle.kc_block_sfr.proofs.acting.write_ioc3.Goals as goal

pub returns-clause-left : goal.returns-clause-left
returns-clause-left g c =
    timers_act g.X.Extra.further g.X.Extra.agrees g.X.Extra.plain c.args.scheduler.now c.catch_up_timers.new.self c.ask_timers.new.self c.args.now
    (λ s. record s { ioc3 = c.args.value }) (λ t. t) (λ d. d)
    c.board_registers_with-scheduler.result c.catch_up_timers.new.self.timer2.unit c.catch_up_timers.new.self.hso.unit
    (record { scheduled = c.catch_up_timers.ensures.left.scheduled; shows = c.catch_up_timers.ensures.left.shows }) c.catch_up_timers.ensures.standing
    (λ s. refl) c.board_registers_with-scheduler.ensures refl c.catch_up_timers.ensures.left.scheduled.value
    refl (λ d. refl) c.ask_timers.ensures.rest c.ask_timers.ensures.others c.ask_timers.ensures.timer2 c.ask_timers.ensures.hso
