use Rattle.std.proofs.Common.{◌≡◌, ◌||◌, ℕ, List, drop}
use Rattle.kc_asm_symbols.specs.Tables.{is_defined_by_set}
use Rattle.kc_asm_symbols.proofs.WalkLemmas.{set_in}
use Rattle.kc_asm_symbols.proofs.names.numbers_of.Given as goal

abbrev pub invariant-loop-stmt : goal.invariant-loop-stmt
invariant-loop-stmt l = (q : List ℕ) → (set_in (drop l.stmt-index l.stmts) q || is_defined_by_set l.numbers q) ≡ set_in l.stmts q
