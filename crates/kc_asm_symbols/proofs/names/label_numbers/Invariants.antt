use Rattle.std.proofs.Common.{◌≡◌, ◌++◌, drop, map}
use Rattle.kc_asm_symbols.specs.Tables.{label_number}
use Rattle.kc_asm_symbols.proofs.names.label_numbers.Given as goal

abbrev pub invariant-loop-stmt : goal.invariant-loop-stmt
invariant-loop-stmt l = l.labels.items ++ map (λ s. label_number l.numbers s.label) (drop l.stmt-index l.stmts) ≡ map (λ s. label_number l.numbers s.label) l.stmts
