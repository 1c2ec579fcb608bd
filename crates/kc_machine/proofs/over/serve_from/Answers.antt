use Rattle.std.proofs.Common.{arith, rules}
use Rattle.std.proofs.lemmas.Grind.{common_steps}
use Rattle.kc_machine.specs.Bus.{held_of}
use Rattle.kc_machine.proofs.Fitting.{served-few, spent-both}
use Rattle.kc_machine.proofs.over.serve_from.Goals as goal

pub returns-clause-within : goal.returns-clause-within
returns-clause-within g c =
    let both = spent-both c.serve.new.bus.common.now.reached c.args.common.now.reached c.serve.new.bus.steps.now c.serve.new.bus.common.now.block.moves c.args.steps.now c.args.common.now.block.moves g.K.Began.steps g.K.Began.moves
    c.requires.began.unreached c.requires.began.steps c.requires.began.moves
    (served-few g.X.Extra.further c.args.cycle.now (held_of c.args.common.now) (held_of c.serve.new.bus.common.now) c.serve.result c.serve.new.cycle c.serve.ensures.effect)
    c.serve.ensures.count.within in
    record { time = first_of (search rules, grind (arith, common_steps)); costs = record { spent = grind (arith, both.spent); moves = grind (arith, both.moves) } }
