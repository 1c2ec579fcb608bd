-- The faults of values and places, statement by statement, and the first of them: on the least line, and there the least
-- code (after the MCS-96 Macro Assembler User's Guide, "Assembler Directives"; the order is this kit's own).
use Rattle.std.specs.Prelude.{ℕ, List, [], ◌∷◌, ◌++◌, Option, Some, None, slice_get}
use Rattle.std.specs.Option.{option_to_list}
use Rattle.kc_lex.specs.LineFaults.{Fault, at_line, least}
use Rattle.kc_expr.specs.Meaning.{Answer}
use Rattle.kc_source_statement.specs.declared.statement.Stmt.{Stmt}
use Rattle.kc_asm_symbols.specs.Located.{Located, located}
use Rattle.kc_asm_symbols.specs.Meanings.{meaning, in_all}
use Rattle.kc_asm_emit.specs.Arguments.{Look}
use Rattle.kc_asm_emit.specs.Content.{content}
use Rattle.kc_asm_emit.specs.Faults as values
use Rattle.kc_asm_layout.specs.StatementSizes.{statement_sizes}
use Rattle.kc_asm_layout.specs.declared.location.Location.{Location}
use Rattle.kc_asm_layout.specs.Text.{layout}
use Rattle.kc_asm_check.specs.Codes.{Regions, first_regions, branch_faults, relocatable_faults, place_faults, regions_after, stack_after, stack_faults, public_faults}

-- ---- one statement

-- by what names mean there, and the bytes of stack before it
abbrev pub own_codes : Look → Regions → ℕ → Located → Location → List ℕ
own_codes look regions sum l s =
    values.faults_of look l.action
    ++ (branch_faults look s.body l.action
    ++ (relocatable_faults look l.action l.segment s (content look s.form l.here l.action)
    ++ (place_faults regions look l.label l.action l.segment s
    ++ stack_faults look sum l.action)))

-- last is what names mean by all statements
abbrev pub codes_of : Look → (List ℕ → Answer) → Regions → ℕ → Located → Location → List ℕ
codes_of look last regions sum l s = own_codes look regions sum l s ++ public_faults last l.action

-- ---- all of them: all are the statements of the module, before those before one, the latest first

-- the least code of each statement that has one, with its line
unfoldable pub faults_from : List Located → Regions → ℕ → List Located → List Located → List Location → List Fault
faults_from all regions sum before [] ss = []
faults_from all regions sum before (l ∷ ls) [] = []
faults_from all regions sum before (l ∷ ls) (s ∷ ss) =
    option_to_list (at_line l.line (values.least (codes_of (meaning all before l) (in_all all) regions sum l s)))
    ++ faults_from all (regions_after (meaning all before l) regions l.action) (stack_after (meaning all before l) sum l.action) (l ∷ before) ls ss

-- where the statements stand
abbrev pub location_list : List Stmt → List Location
location_list stmts = layout (statement_sizes stmts)

abbrev pub place_in : Option Location → ℕ
place_in None = 0
place_in (Some s) = s.place

abbrev pub place_at : List Location → ℕ → ℕ
place_at ss number = place_in (slice_get ss number)

abbrev pub standing : List Stmt → List Located
standing stmts = located (place_at (location_list stmts)) stmts

abbrev pub faults_in : List Stmt → List Fault
faults_in stmts = faults_from (standing stmts) first_regions 0 [] (standing stmts) (location_list stmts)

abbrev pub first_fault : List Stmt → Option Fault
first_fault stmts = least (faults_in stmts)
