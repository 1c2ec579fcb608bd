use Rattle.std.proofs.Common.{◌≡◌, drop}
use Rattle.kc_asm.proofs.NamedLemmas.{name_in}
use Rattle.kc_asm.proofs.naming.name_of.Given as goal

abbrev pub invariant-loop-stmt : goal.invariant-loop-stmt
invariant-loop-stmt l = name_in (drop l.stmt-index l.stmts) ≡ name_in l.stmts
