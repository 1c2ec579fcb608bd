-- What the passes over lines and statements make sure of, so that an object can report each statement: it has the number of a line,
-- its names are names of an object, and instructions and data stand in segments of code (after the MCS-96 Macro Assembler User's
-- Guide, "Symbols" and "Segments and the Location Counter").
use Rattle.std.specs.Prelude.{◌≡◌, ℕ, Bool, true, false, not, ◌&&◌, ◌||◌, nat_lt, List, ◌++◌}
use Rattle.std.specs.List.{list_all}
use Rattle.std.specs.Option.{option_to_list}
use Rattle.kc_obj_module.specs.declared.parts.SegKind.{SegKind}
use Rattle.kc_obj_module.specs.declared.parts.SegKind.TheVariants.{Code}
use Rattle.kc_obj_module.specs.Names.{is_name, is_stack_name}
use Rattle.kc_expr.specs.declared.values.Value.{Value}
use Rattle.kc_source_statement.specs.declared.statement.Stmt.{Stmt}
use Rattle.kc_source_statement.specs.Trees.{action_tree}
use Rattle.kc_source_statement.specs.Formed.{names_said}
use Rattle.kc_source.specs.Faults.{holds_bytes}
use Rattle.kc_asm_symbols.specs.declared.segments.Segment.{Segment}
use Rattle.kc_asm_symbols.specs.Located.{Located, located_by}

-- ---- names and lines

-- a name that a module may give: not that of the stack
abbrev pub is_public : List ℕ → Bool
is_public name = is_name name && not (is_stack_name name)

-- its label, and the names that it defines, takes or gives, and that of a module
abbrev pub names_of : Stmt → List (List ℕ)
names_of s = option_to_list s.label ++ names_said (action_tree s.action)

abbrev pub is_reported : Stmt → Bool
is_reported s = nat_lt 0 s.line && list_all is_public (names_of s)

-- ---- segments

abbrev pub is_code : SegKind → Bool
is_code Code = true
is_code kind = false

-- an instruction and data in code, anything else anywhere
abbrev pub stands_well : Located → Bool
stands_well l = not (holds_bytes l.action) || is_code l.segment.kind

-- ---- the statements of a module, whatever the values of their places

pub record AreReadWell (stmts : List Stmt) : Type 0 where
  pub reported : list_all is_reported stmts ≡ true
  pub in_code : (values : ℕ → Segment → Value) → list_all stands_well (located_by values stmts) ≡ true
