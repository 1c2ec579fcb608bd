use Rattle.std.proofs.Common.{arith, rules}
use Rattle.std.proofs.lemmas.Grind.{common_steps}
use Rattle.kc_exec_spec.specs.Effects.{effect_of}
use Rattle.kc_exec_spec.proofs.Counting.{effect-most}
use Rattle.kc_machine.specs.Bus.{held_of}
use Rattle.kc_machine.proofs.Fitting.{performed-few, spent-both}
use Rattle.kc_machine.proofs.over.perform_from.Goals as goal

pub returns-clause-within : goal.returns-clause-within
returns-clause-within g c =
    let both = (spent-both c.perform.new.bus.common.now.reached c.args.common.now.reached c.perform.new.bus.steps.now c.perform.new.bus.common.now.block.moves c.args.steps.now c.args.common.now.block.moves g.K.Began.steps g.K.Began.moves
    c.requires.began.unreached c.requires.began.steps c.requires.began.moves
    (performed-few g.X.Extra.further (effect_of c.args.insn.now c.args.cpu.now) (held_of c.args.common.now) (held_of c.perform.new.bus.common.now) c.perform.result c.args.cpu.now c.perform.new.cpu (effect-most c.args.insn.now c.args.cpu.now) c.perform.ensures.effect)
    c.perform.ensures.count.within) in
    record { time = first_of (search rules, grind (arith, common_steps)); costs = record { spent = grind (arith, both.spent); moves = grind (arith, both.moves) } }
