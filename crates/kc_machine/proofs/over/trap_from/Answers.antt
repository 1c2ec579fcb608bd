use Rattle.std.proofs.Common.{◌+◌, ◌%◌, arith, rules}
use Rattle.std.proofs.lemmas.Grind.{common_steps}
use Rattle.kc_exec_spec.specs.Entering.{opcode_trap}
use Rattle.kc_exec_spec.proofs.Counting.{any_trap-most}
use Rattle.kc_machine.specs.Bus.{held_of}
use Rattle.kc_machine.proofs.Fitting.{loaded-few, spent-both}
use Rattle.kc_machine.proofs.over.trap_from.Goals as goal

pub returns-clause-within : goal.returns-clause-within
returns-clause-within g c =
    let both = (spent-both c.trap_opcode.new.bus.common.now.reached c.args.common.now.reached c.trap_opcode.new.bus.steps.now c.trap_opcode.new.bus.common.now.block.moves c.args.steps.now c.args.common.now.block.moves g.K.Began.steps g.K.Began.moves
    c.requires.began.unreached c.requires.began.steps c.requires.began.moves
    (loaded-few g.X.Extra.further (opcode_trap c.args.cpu.now.pc) (held_of c.args.common.now) (held_of c.trap_opcode.new.bus.common.now) c.trap_opcode.result c.args.cpu.now c.trap_opcode.new.cpu (any_trap-most 0x2012 ((c.args.cpu.now.pc + 1) % 0x10000)) c.trap_opcode.ensures.effect)
    c.trap_opcode.ensures.count.within) in
    record { time = first_of (search rules, grind (arith, common_steps)); costs = record { spent = grind (arith, both.spent); moves = grind (arith, both.moves) } }
