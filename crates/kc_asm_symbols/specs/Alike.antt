-- What does not depend on where statements stand: names that answer alike, so the bytes of a statement are as many wherever
-- the labels are.
use Rattle.std.specs.Prelude.{◌≡◌, ℕ, List, ◌∷◌, ◌++◌, reverse, length}
use Rattle.kc_expr.specs.declared.values.Value.{Value}
use Rattle.kc_expr.specs.Tree.{Tree}
use Rattle.kc_expr.specs.Meaning.{answer_by}
use Rattle.kc_expr.specs.Alike.{AreAlikeValues, AreAlike, AllAlike}
use Rattle.kc_source_statement.specs.declared.statement.Stmt.{Stmt}
use Rattle.kc_asm_symbols.specs.declared.segments.Segment.{Segment}
use Rattle.kc_asm_symbols.specs.Located.{Located, located, located_by}
use Rattle.kc_asm_symbols.specs.Meanings.{meaning}

-- where the values of all places are alike, so are the names of a statement, and of the same with other places: as many
-- statements stand before it
abbrev pub MeaningsAreAlike : Type 0
MeaningsAreAlike =
    (values others : ℕ → Segment → Value) → ((i : ℕ) (g : Segment) → AreAlikeValues (values i g) (others i g))
    → (stmts : List Stmt) (before passed after rest : List Located) (l m : Located)
    → located_by values stmts ≡ reverse before ++ l ∷ after → located_by others stmts ≡ reverse passed ++ m ∷ rest → length before ≡ length passed
    → AllAlike (meaning (located_by values stmts) before l) (meaning (located_by others stmts) passed m)

-- an expression of a statement, and the same in another layout: as many statements stand before it
abbrev pub MeaningsDoNotDependOnPlaces : Type 0
MeaningsDoNotDependOnPlaces =
    (places others : ℕ → ℕ) (stmts : List Stmt) (before passed after rest : List Located) (l m : Located)
    → located places stmts ≡ reverse before ++ l ∷ after → located others stmts ≡ reverse passed ++ m ∷ rest → length before ≡ length passed
    → (x : Tree) → AreAlike (answer_by (meaning (located places stmts) before l) x) (answer_by (meaning (located others stmts) passed m) x)
