use Rattle.std.proofs.Common.{arith, rules}
use Rattle.std.proofs.lemmas.Grind.{common_steps}
use Rattle.kc_exec_spec.specs.Effects.{effect_of}
use Rattle.kc_exec_spec.proofs.Counting.{effect-most}
use Rattle.kc_machine.specs.Bus.{held_of}
use Rattle.kc_machine.proofs.Fitting.{went-few, spent-both}
use Rattle.kc_machine.proofs.over.predecoded_from.Goals as goal

pub returns-clause-within : goal.returns-clause-within
returns-clause-within g c =
    let both = (spent-both c.perform_predecoded.new.bus.common.now.reached c.args.common.now.reached c.perform_predecoded.new.bus.steps.now c.perform_predecoded.new.bus.common.now.block.moves c.args.steps.now c.args.common.now.block.moves g.K.Began.steps g.K.Began.moves
    c.requires.began.unreached c.requires.began.steps c.requires.began.moves
    (went-few g.X.Extra.further (effect_of c.args.predecoded.now.insn c.args.cpu.now) (held_of c.args.common.now) (held_of c.perform_predecoded.new.bus.common.now) c.perform_predecoded.result c.args.cpu.now c.perform_predecoded.new.cpu (effect-most c.args.predecoded.now.insn c.args.cpu.now) c.perform_predecoded.ensures.effect)
    c.perform_predecoded.ensures.count.within) in
    record { time = first_of (search rules, grind (arith, common_steps)); costs = record { spent = grind (arith, both.spent); moves = grind (arith, both.moves) } }
