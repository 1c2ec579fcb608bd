use Rattle.std.proofs.Common.{◌≡◌, ◌&&◌, ◌+◌, ◌<◌, ◌≤◌, nat_lt, nat_le, ap, sym, subst, ◌∙◌, arith}
use Rattle.kc_extra.specs.contracts.pair_unit.PairExtra.TheImpl as pair
use Rattle.kc_cycles.specs.contracts.watchdog.Watchdog as watchdog_type
use Rattle.kc_cycles.specs.contracts.watchdog.WatchdogExtra.TheImpl as watchdog
use Rattle.kc_base.specs.Limits.{max_states}
use Rattle.kc_cycles.specs.Lives.{is_reset}
use Rattle.kc_machine_spec.specs.Text.{HasRun}
use Rattle.kc_debug.proofs.Settled.{followed-parts, reset-run, settled-followed, settled-stayed, stay-goes, stay-time}
use Rattle.kc_debug.proofs.life.settle.Goals as goal

pub follow-requires-clause-more : goal.follow-requires-clause-more
follow-requires-clause-more g c = (followed-parts c.is_followed.result c.how_in-how.result c.args.life.now.number c.args.lives.now.most (c.args.life.now.from + c.args.life.now.machine.machine.time) max_states c.is_followed.ensures c.if-is_followed.true).1

pub follow-requires-clause-fits : goal.follow-requires-clause-fits
follow-requires-clause-fits g c = (followed-parts c.is_followed.result c.how_in-how.result c.args.life.now.number c.args.lives.now.most (c.args.life.now.from + c.args.life.now.machine.machine.time) max_states c.is_followed.ensures c.if-is_followed.true).2

pub follow-requires-clause-ran : goal.follow-requires-clause-ran
follow-requires-clause-ran g c =
    reset-run c.how_in-how.result c.args.life.now.machine.machine.time (followed-parts c.is_followed.result c.how_in-how.result c.args.life.now.number c.args.lives.now.most (c.args.life.now.from + c.args.life.now.machine.machine.time) max_states c.is_followed.ensures c.if-is_followed.true).0 (subst (λ h. HasRun h c.args.life.now.machine.machine.time) (sym c.how_in-how.ensures) c.requires.ran)

pub stay-requires-clause-ran : goal.stay-requires-clause-ran
stay-requires-clause-ran g c = subst (λ h. HasRun h c.args.life.now.machine.machine.time) (sym c.how_in-how.ensures) c.requires.ran

pub returns-then-is_followed-clause-goes : goal.returns-then-is_followed-clause-goes
returns-then-is_followed-clause-goes g c =
    let f = (pair.ghosts g.row.M-X watchdog_type.the_row g.M.X.Extra pair.no_dict watchdog.ghosts pair.no_dict).further in
    let made = g.M.Maker.made c.args.lives.now.maker.now c.args.lives.now.stimuli.now in
    let most = c.args.lives.now.most in
    let s = c.args.life.now in
    let is = c.is_followed.ensures ∙ ap (λ h. is_reset h && (nat_lt s.number c.args.lives.now.most && nat_le (s.from + s.machine.machine.time) max_states)) c.how_in-how.ensures in
    settled-followed f made c.args.lives.now.image.now c.args.lives.now.stimuli.now most s c.follow.new.life c.args.by_watchdog _ _ c.follow.result c.is_followed.result is c.if-is_followed.true c.follow.ensures.goes

pub returns-else-is_followed-clause-goes : goal.returns-else-is_followed-clause-goes
returns-else-is_followed-clause-goes g c =
    let f = (pair.ghosts g.row.M-X watchdog_type.the_row g.M.X.Extra pair.no_dict watchdog.ghosts pair.no_dict).further in
    let made = g.M.Maker.made c.args.lives.now.maker.now c.args.lives.now.stimuli.now in
    let most = c.args.lives.now.most in
    let s = c.args.life.now in
    let is = c.is_followed.ensures ∙ ap (λ h. is_reset h && (nat_lt s.number c.args.lives.now.most && nat_le (s.from + s.machine.machine.time) max_states)) c.how_in-how.ensures in
    settled-stayed f made c.args.lives.now.image.now c.args.lives.now.stimuli.now most s c.stay.new.life c.args.by_watchdog _ _ c.stay.result c.is_followed.result is c.if-is_followed.false
    (stay-goes f made c.args.lives.now.image.now c.args.lives.now.stimuli.now most s c.stay.new.life c.args.by_watchdog c.how_in-how.result _ _ c.stay.result c.how_in-how.ensures c.requires.ready c.stay.ensures.over c.stay.ensures.text c.stay.ensures.written c.stay.ensures.fault c.stay.ensures.failed)

pub returns-else-is_followed-clause-time : goal.returns-else-is_followed-clause-time
returns-else-is_followed-clause-time g c = stay-time c.args.life.now c.stay.new.life c.how_in-how.result c.stay.result c.stay.ensures.over
