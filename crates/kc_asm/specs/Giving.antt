-- The public names, as one walk over the names that PUBLIC gives makes them: each name that was not seen before.
use Rattle.std.specs.Prelude.{ℕ, Bool, true, if◌then◌else◌, List, [], ◌∷◌, ◌++◌}
use Rattle.kc_expr.specs.Meaning.{Answer}
use Rattle.kc_asm_symbols.specs.Tables.{updated}
use Rattle.kc_asm_section.specs.declared.unlinked.Public.{Public as Given}
use Rattle.kc_asm_unlinked_laws.specs.Collecting.{given_as}

unfoldable pub given_from : (List ℕ → Answer) → (List ℕ → Bool) → List (List ℕ) → List Given
given_from last seen [] = []
given_from last seen (n ∷ ns) =
    if seen n then given_from last seen ns else given_as n (last n) ++ given_from last (updated n true seen) ns
