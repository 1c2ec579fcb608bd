use Rattle.std.proofs.Common.{◌-◌, ◌+◌, arith}
use Rattle.kc_block_spec.specs.Touch.{block_rule}
use Rattle.kc_machine_spec.proofs.Calls.{always}
use Rattle.kc_profile.proofs.Alone.{quiet-due, quiet-for}
use Rattle.kc_profile.proofs.running.pass.Goals as goal

pub rest-requires-clause-quiet : goal.rest-requires-clause-quiet
rest-requires-clause-quiet g c =
    let m = c.args.machine.now.machine in
    quiet-for (block_rule g.X.Extra.further) m.time (c.due.result - m.time) (c.idles_to-rested.result - m.time) m.board.units (omega (arith, c.idles_to-rested.ensures.within, c.min-stop.ensures, c.due.ensures.later)) (quiet-due (block_rule g.X.Extra.further) m.time m.board.units c.due.result c.due.ensures.due)

pub finish-requires-clause-quiet : goal.finish-requires-clause-quiet
finish-requires-clause-quiet g c =
    let m = c.args.machine.now.machine in
    quiet-for (block_rule g.X.Extra.further) m.time (c.due.result - m.time) _ m.board.units (omega (arith, c.if-now-from.true, c.from.ensures, c.min-stop.ensures, c.requires.left, c.now-now.ensures, c.due.ensures.later)) (quiet-due (block_rule g.X.Extra.further) m.time m.board.units c.due.result c.due.ensures.due)
