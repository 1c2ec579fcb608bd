use Rattle.kc_extra.specs.contracts.pair_unit.PairExtra.TheImpl as pair
use Rattle.kc_cycles.specs.contracts.watchdog.Watchdog as watchdog_type
use Rattle.kc_cycles.specs.contracts.watchdog.WatchdogExtra.TheImpl as watchdog
use Rattle.kc_debug.proofs.Settled.{follow-goes, follow-fails, follow-time}
use Rattle.kc_debug.proofs.life.follow.Goals as goal

pub returns-in-Ok-clause-goes : goal.returns-in-Ok-clause-goes
returns-in-Ok-clause-goes g c =
    let f = (pair.ghosts g.row.M-X watchdog_type.the_row g.M.X.Extra pair.no_dict watchdog.ghosts pair.no_dict).further in
    let made = g.M.Maker.made c.args.lives.now.maker.now c.args.lives.now.stimuli.now in
    let most = c.args.lives.now.most in
    follow-goes f made c.args.lives.now.image.now c.args.lives.now.stimuli.now most c.args.life.now c.begin_next.new.life c.args.by_watchdog _ _ c.begin_next.ensures.line _ c.report_stand.result c.in-Ok.ensures.next c.requires.fits c.in-Ok.ensures.born c.report_stand.ensures.text c.report_stand.ensures.written
    c.report_stand.ensures.fault c.report_stand.ensures.failed

pub returns-in-Ok-clause-time : goal.returns-in-Ok-clause-time
returns-in-Ok-clause-time g c =
    let f = (pair.ghosts g.row.M-X watchdog_type.the_row g.M.X.Extra pair.no_dict watchdog.ghosts pair.no_dict).further in
    let made = g.M.Maker.made c.args.lives.now.maker.now c.args.lives.now.stimuli.now in
    let most = c.args.lives.now.most in
    follow-time f made c.args.lives.now.image.now c.args.lives.now.stimuli.now most _ _ c.report_stand.result c.in-Ok.ensures.born

pub returns-in-Err-clause-goes : goal.returns-in-Err-clause-goes
returns-in-Err-clause-goes g c =
    let f = (pair.ghosts g.row.M-X watchdog_type.the_row g.M.X.Extra pair.no_dict watchdog.ghosts pair.no_dict).further in
    let made = g.M.Maker.made c.args.lives.now.maker.now c.args.lives.now.stimuli.now in
    let most = c.args.lives.now.most in
    follow-fails f made c.args.lives.now.image.now c.args.lives.now.stimuli.now most c.args.life.now c.begin_next.new.life c.args.by_watchdog _ _ c.begin_next.ensures.line c.in-Err.fault c.in-Err.ensures.failed c.in-Err.ensures.wanting
