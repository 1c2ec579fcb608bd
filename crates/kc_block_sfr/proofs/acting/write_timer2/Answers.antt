use Rattle.std.proofs.Common.{refl, ap, arith}
use Rattle.kc_block_sfr.proofs.Acts.{timers_act}
use Rattle.kc_block_sfr.proofs.acting.write_timer2.Goals as goal

pub returns-clause-left : goal.returns-clause-left
returns-clause-left g c =
    timers_act g.X.Extra.further g.X.Extra.agrees g.X.Extra.plain c.args.scheduler.now c.catch_up_timers.new.self c.ask_timers.new.self c.args.now
    (λ s. s) (λ t. record t { value = c.args.value }) (λ d. d)
    c.catch_up_timers.new.self.board_registers c.write.new.self c.catch_up_timers.new.self.hso.unit
    (record { scheduled = c.catch_up_timers.ensures.left.scheduled; shows = c.catch_up_timers.ensures.left.shows }) c.catch_up_timers.ensures.standing
    (λ s. refl) refl (ap (λ u. u.inner) c.write.ensures) (omega arith)
    refl (λ d. refl) c.ask_timers.ensures.rest c.ask_timers.ensures.others c.ask_timers.ensures.timer2 c.ask_timers.ensures.hso
