use Rattle.std.proofs.Common.{arith, rules}
use Rattle.std.proofs.lemmas.Grind.{common_steps}
use Rattle.kc_exec_spec.specs.Entering.{entry}
use Rattle.kc_exec_spec.proofs.Counting.{entry-most}
use Rattle.kc_machine.specs.Bus.{held_of}
use Rattle.kc_machine.proofs.Fitting.{loaded-few, spent-both}
use Rattle.kc_machine.proofs.over.enter_from.Goals as goal

pub returns-clause-within : goal.returns-clause-within
returns-clause-within g c =
    let both = (spent-both c.enter.new.bus.common.now.reached c.args.common.now.reached c.enter.new.bus.steps.now c.enter.new.bus.common.now.block.moves c.args.steps.now c.args.common.now.block.moves g.K.Began.steps g.K.Began.moves
    c.requires.began.unreached c.requires.began.steps c.requires.began.moves
    (loaded-few g.X.Extra.further (entry c.args.vector c.args.cpu.now.pc) (held_of c.args.common.now) (held_of c.enter.new.bus.common.now) c.enter.result c.args.cpu.now c.enter.new.cpu (entry-most c.args.vector c.args.cpu.now.pc) c.enter.ensures.effect)
    c.enter.ensures.count.within) in
    record { time = first_of (search rules, grind (arith, common_steps)); costs = record { spent = grind (arith, both.spent); moves = grind (arith, both.moves) } }
