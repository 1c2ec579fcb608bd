use Rattle.std.proofs.Common.{arith, rules}
use Rattle.std.proofs.lemmas.Grind.{common_steps}
use Rattle.kc_exec_spec.specs.BlockMoves.{moved_word}
use Rattle.kc_exec_spec.proofs.Counting.{word-most}
use Rattle.kc_machine.specs.Bus.{held_of}
use Rattle.kc_machine.proofs.Fitting.{performed-few, spent-both}
use Rattle.kc_machine.proofs.over.move_from.Goals as goal

pub returns-clause-within : goal.returns-clause-within
returns-clause-within g c =
    let both = (spent-both c.move_word.new.bus.common.now.reached c.args.common.now.reached c.move_word.new.bus.steps.now c.move_word.new.bus.common.now.block.moves c.args.steps.now c.args.common.now.block.moves g.K.Began.steps g.K.Began.moves
    c.requires.began.unreached c.requires.began.steps c.requires.began.moves
    (performed-few g.X.Extra.further (moved_word c.args.insn.now c.args.words c.args.cpu.now) (held_of c.args.common.now) (held_of c.move_word.new.bus.common.now) c.move_word.result c.args.cpu.now c.move_word.new.cpu (word-most c.args.insn.now c.args.words c.args.cpu.now) c.move_word.ensures.effect)
    c.move_word.ensures.count.within) in
    record { time = first_of (search rules, grind (arith, common_steps)); costs = record { spent = grind (arith, both.spent); moves = grind (arith, both.moves) } }
