use Rattle.std.proofs.Common.{arith, rules}
use Rattle.std.proofs.lemmas.Grind.{common_steps}
use Rattle.kc_machine.specs.Bus.{held_of}
use Rattle.kc_machine.proofs.Fitting.{setup-few, spent-both}
use Rattle.kc_machine.proofs.over.setup_from.Goals as goal

pub returns-clause-within : goal.returns-clause-within
returns-clause-within g c =
    let both = spent-both c.setup.new.bus.common.now.reached c.args.common.now.reached c.setup.new.bus.steps.now c.setup.new.bus.common.now.block.moves c.args.steps.now c.args.common.now.block.moves g.K.Began.steps g.K.Began.moves
    c.requires.began.unreached c.requires.began.steps c.requires.began.moves
    (setup-few g.X.Extra.further c.args.number (held_of c.args.common.now) (held_of c.setup.new.bus.common.now) c.setup.result c.setup.ensures.gives)
    c.setup.ensures.count.within in
    record { time = first_of (search rules, grind (arith, common_steps)); costs = record { spent = grind (arith, both.spent); moves = grind (arith, both.moves) } }
