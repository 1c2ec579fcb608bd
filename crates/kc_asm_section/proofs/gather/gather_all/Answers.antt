use Rattle.std.proofs.Common.{Some, ◌≡◌}
use Rattle.kc_asm_section.specs.Order.{number_of, kept_if, stack_pieces}
use Rattle.kc_asm_section.specs.ModuleContents.{empty}
use Rattle.kc_asm_section.proofs.Gathering.{room_two, room_three, room_four, room_five, five_added}
use Rattle.kc_asm_section.proofs.gather.gather_all.Goals as goal

pub add_if-requires-2-clause-room : goal.add_if-requires-2-clause-room
add_if-requires-2-clause-room c = room_two (number_of c.args.kept) (kept_if c.args.kept.registers (Some c.args.registers.now)) (kept_if c.args.kept.code (Some c.args.code.now)) (kept_if c.args.kept.ram (Some c.args.ram.now)) (stack_pieces c.args.stack) c.args.absolute.now c.requires.count c.new-gathered.result c.add_if.new.self c.new-gathered.ensures c.in_ok-add_if.ensures.added

pub add_if-requires-3-clause-room : goal.add_if-requires-3-clause-room
add_if-requires-3-clause-room c = room_three (number_of c.args.kept) (kept_if c.args.kept.registers (Some c.args.registers.now)) (kept_if c.args.kept.code (Some c.args.code.now)) (kept_if c.args.kept.ram (Some c.args.ram.now)) (stack_pieces c.args.stack) c.args.absolute.now c.requires.count c.new-gathered.result c.add_if.new.self c.new-gathered.ensures c.in_ok-add_if.ensures.added c.add_if-2.new.self c.in_ok-add_if-2.ensures.added

pub add_stack-requires : goal.add_stack-requires
add_stack-requires c = room_four (number_of c.args.kept) (kept_if c.args.kept.registers (Some c.args.registers.now)) (kept_if c.args.kept.code (Some c.args.code.now)) (kept_if c.args.kept.ram (Some c.args.ram.now)) (stack_pieces c.args.stack) c.args.absolute.now c.requires.count c.new-gathered.result c.add_if.new.self c.new-gathered.ensures c.in_ok-add_if.ensures.added c.add_if-2.new.self c.in_ok-add_if-2.ensures.added c.add_if-3.new.self c.in_ok-add_if-3.ensures.added

pub add_all-requires-clause-room : goal.add_all-requires-clause-room
add_all-requires-clause-room c = room_five (number_of c.args.kept) (kept_if c.args.kept.registers (Some c.args.registers.now)) (kept_if c.args.kept.code (Some c.args.code.now)) (kept_if c.args.kept.ram (Some c.args.ram.now)) (stack_pieces c.args.stack) c.args.absolute.now c.requires.count c.new-gathered.result c.add_if.new.self c.new-gathered.ensures c.in_ok-add_if.ensures.added c.add_if-2.new.self c.in_ok-add_if-2.ensures.added c.add_if-3.new.self c.in_ok-add_if-3.ensures.added c.add_stack.new.self c.in_ok-add_stack.ensures

pub returns-clause-pieces : goal.returns-clause-pieces
returns-clause-pieces c =
    let start : c.new-gathered.result ≡ empty = c.new-gathered.ensures in
    rw (← start) (five_added (number_of c.args.kept) (kept_if c.args.kept.registers (Some c.args.registers.now)) (kept_if c.args.kept.code (Some c.args.code.now)) (kept_if c.args.kept.ram (Some c.args.ram.now)) (stack_pieces c.args.stack) c.args.absolute.now c.new-gathered.result c.add_if.new.self c.add_if-2.new.self c.add_if-3.new.self c.add_stack.new.self c.add_all.new.self c.in_ok-add_if.ensures.added c.in_ok-add_if-2.ensures.added c.in_ok-add_if-3.ensures.added c.in_ok-add_stack.ensures c.in_ok-add_all.ensures.added)
