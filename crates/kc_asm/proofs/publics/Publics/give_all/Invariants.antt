use Rattle.std.proofs.Common.{◌≡◌, ◌++◌, ℕ, List, drop}
use Rattle.kc_asm_symbols.specs.Located.{Located}
use Rattle.kc_asm_symbols.specs.Meanings.{in_all}
use Rattle.kc_asm_symbols.specs.Tables.{is_marked}
use Rattle.kc_asm_symbols.specs.Walk.{IsBehind}
use Rattle.kc_asm.specs.Giving.{given_from}
use Rattle.kc_asm.proofs.publics.Publics.give_all.Given as goal

abbrev pub invariant-loop-name : goal.invariant-loop-name
invariant-loop-name l =
    (all before : List Located) (rest : List (List ℕ)) → IsBehind l.meanings all before
    → l.self.items.items ++ given_from (in_all all) (is_marked l.self.seen) (drop l.name-index l.names ++ rest)
    ≡ l.fn.self.items.items ++ given_from (in_all all) (is_marked l.fn.self.seen) (l.names ++ rest)
