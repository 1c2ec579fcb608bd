use Rattle.std.proofs.Common.{◌≡◌, ◌++◌, List, drop}
use Rattle.kc_asm_symbols.specs.Located.{Located}
use Rattle.kc_asm_symbols.specs.Meanings.{in_all}
use Rattle.kc_asm_symbols.specs.Tables.{is_marked, no_name}
use Rattle.kc_asm_symbols.specs.Walk.{IsBehind}
use Rattle.kc_asm.specs.Giving.{given_from}
use Rattle.kc_asm.proofs.NamedLemmas.{given_in}
use Rattle.kc_asm.proofs.publics.publics_of.Given as goal

abbrev pub invariant-loop-stmt : goal.invariant-loop-stmt
invariant-loop-stmt l =
    (all before : List Located) → IsBehind l.meanings all before
    → l.publics.items.items ++ given_from (in_all all) (is_marked l.publics.seen) (given_in (drop l.stmt-index l.stmts))
    ≡ given_from (in_all all) no_name (given_in l.stmts)
