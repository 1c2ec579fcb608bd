-- What each statement puts where it stands, and how many bytes of stack all of them ask for (after the MCS-96 Macro Assembler
-- User's Guide, "Assembler Directives").
use Rattle.std.specs.Prelude.{ℕ, List, [], ◌∷◌, Option}
use Rattle.kc_source_statement.specs.declared.statement.Stmt.{Stmt}
use Rattle.kc_asm_symbols.specs.Located.{Located}
use Rattle.kc_asm_symbols.specs.Meanings.{meaning}
use Rattle.kc_asm_emit.specs.Arguments.{Look}
use Rattle.kc_asm_emit.specs.Content.{Content, content}
use Rattle.kc_asm_layout.specs.StatementSizes.{opens}
use Rattle.kc_asm_layout.specs.declared.location.Location.{Location}
use Rattle.kc_asm_check.specs.Codes.{stack_after}
use Rattle.kc_asm_check.specs.Checking.{location_list, standing}

-- what a statement puts into its piece, and the address of the absolute piece that it opens, if it opens one
pub record Put : Type 0 where
  pub content : Content
  pub opens : Option ℕ

abbrev pub put_of : Look → Located → Location → Put
put_of look l s = record { content = content look s.form l.here l.action; opens = opens look l.action }

-- of the statements from one on: all are those of the module, before those before it, the latest first

unfoldable pub puts_from : List Located → List Located → List Located → List Location → List Put
puts_from all before [] ss = []
puts_from all before (l ∷ ls) [] = []
puts_from all before (l ∷ ls) (s ∷ ss) = put_of (meaning all before l) l s ∷ puts_from all (l ∷ before) ls ss

unfoldable pub stack_from : List Located → ℕ → List Located → List Located → ℕ
stack_from all sum before [] = sum
stack_from all sum before (l ∷ ls) = stack_from all (stack_after (meaning all before l) sum l.action) (l ∷ before) ls

-- of all statements of a module

abbrev pub puts_of : List Stmt → List Put
puts_of stmts = puts_from (standing stmts) [] (standing stmts) (location_list stmts)

abbrev pub stack_of : List Stmt → ℕ
stack_of stmts = stack_from (standing stmts) 0 [] (standing stmts)
