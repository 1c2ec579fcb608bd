use Rattle.std.proofs.Common.{◌≡◌}
use Rattle.kc_asm_symbols.specs.Tables.{is_defined_by_set}
use Rattle.kc_asm_symbols.proofs.numbers.Numbers.add_all.Given as goal

abbrev pub invariant-loop-name : goal.invariant-loop-name
invariant-loop-name l = is_defined_by_set l.self ≡ is_defined_by_set l.initial.self
