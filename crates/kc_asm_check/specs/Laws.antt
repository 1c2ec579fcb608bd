-- Where a module has no first fault, no statement has one.
use Rattle.std.specs.Prelude.{◌≡◌, ℕ, List, [], ◌∷◌, None}
use Rattle.kc_source_statement.specs.declared.statement.Stmt.{Stmt}
use Rattle.kc_asm_symbols.specs.Located.{Located}
use Rattle.kc_asm_symbols.specs.Meanings.{meaning, in_all}
use Rattle.kc_asm_layout.specs.declared.location.Location.{Location}
use Rattle.kc_asm_check.specs.Codes.{Regions, first_regions, regions_after, stack_after}
use Rattle.kc_asm_check.specs.Checking.{codes_of, first_fault, location_list, standing}

-- no statement from one on has a fault
unfoldable pub AreSound : List Located → Regions → ℕ → List Located → List Located → List Location → Type 0
AreSound all regions sum before [] ss = Unit {0}
AreSound all regions sum before (l ∷ ls) [] = Unit {0}
AreSound all regions sum before (l ∷ ls) (s ∷ ss) =
    (codes_of (meaning all before l) (in_all all) regions sum l s ≡ [])
    × AreSound all (regions_after (meaning all before l) regions l.action) (stack_after (meaning all before l) sum l.action) (l ∷ before) ls ss

abbrev pub SoundStatements : Type 0
SoundStatements =
    (stmts : List Stmt) → first_fault stmts ≡ None
    → AreSound (standing stmts) first_regions 0 [] (standing stmts) (location_list stmts)
