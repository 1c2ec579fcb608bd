-- The statements of a source, and the first fault of reading them: of all pairs of a line and a code, the least line and
-- there the least code. Codes: 1 no statement, 14 operands that do not fit, 23 MODULE not first, 18 an instruction or
-- data outside a code segment, 6 a name defined twice, 8 too many names, 21 EXTRN of a name that is defined or taken,
-- 20 PUBLIC of a name that is not defined (this kit's own).
use Rattle.std.specs.Prelude.{◌≡◌, ℕ, ◌+◌, Bool, true, false, not, ◌&&◌, ◌||◌, nat_le, if◌then◌else◌, List, [], ◌∷◌, ◌++◌, map, Option, Some, None, Result, Ok, Err}
use Rattle.std.specs.Option.{option_to_list}
use Rattle.std.specs.List.{list_any}
use Rattle.std.specs.Str.{bytes_eq}
use Rattle.std.specs.Global.{Vec}
use Rattle.kc_lex.specs.declared.token.Line.{Line}
use Rattle.kc_lex.specs.declared.fault.SourceFault.{SourceFault}
use Rattle.kc_lex.specs.declared.fault.SourceFault.TheVariants as faults
pub use Rattle.kc_lex.specs.LineFaults.{Fault, is_before, lesser, at_line}
unfoldable pub use Rattle.kc_lex.specs.LineFaults.{least}
use Rattle.kc_lex.specs.Codes.{defined_twice, many_names, outside_code, not_public, not_external, second_module}
use Rattle.kc_source_statement.specs.declared.statement.Stmt.{Stmt}
use Rattle.kc_source.specs.declared.uses.Use.{Use}
use Rattle.kc_source.specs.declared.uses.UseKind.{UseKind}
use Rattle.kc_source.specs.declared.uses.UseKind.TheVariants.{Once, Again, Taken, Given}
use Rattle.kc_source_statement.specs.Trees.{ActionTree, action_tree, Bare, Module, Cseg, Dseg, Rseg, Sseg, Public, Extrn, Equ, Set, Define, Reserve, Org, Even, End, Operation}
use Rattle.kc_source_statement.specs.Operands.{is_nil}
use Rattle.kc_source_statement.specs.Statements.{statement_in, label_in}

-- ---- what each line says that is not blank

pub record Said : Type 0 where
  pub line : ℕ
  pub label : Option (List ℕ)
  pub action : Result ActionTree ℕ

abbrev pub said : Line → Said
said l = record { line = l.number; label = label_in l.tokens; action = statement_in l.tokens }

unfoldable pub all_said : List Line → List Said
all_said [] = []
all_said (l ∷ ls) = if is_nil l.tokens then all_said ls else said l ∷ all_said ls

-- ---- faults of a line alone, and of its place in a segment

abbrev pub is_module : ActionTree → Bool
is_module (Module name stack) = true
is_module Bare = false
is_module (Cseg at) = false
is_module (Dseg at) = false
is_module (Rseg at) = false
is_module (Sseg size) = false
is_module (Public names) = false
is_module (Extrn names) = false
is_module (Equ name x) = false
is_module (Set name x) = false
is_module (Define size items) = false
is_module (Reserve size x) = false
is_module (Org x) = false
is_module Even = false
is_module End = false
is_module (Operation name args) = false

-- an instruction or data
abbrev pub holds_bytes : ActionTree → Bool
holds_bytes (Define size items) = true
holds_bytes (Operation name args) = true
holds_bytes Bare = false
holds_bytes (Module name stack) = false
holds_bytes (Cseg at) = false
holds_bytes (Dseg at) = false
holds_bytes (Rseg at) = false
holds_bytes (Sseg size) = false
holds_bytes (Public names) = false
holds_bytes (Extrn names) = false
holds_bytes (Equ name x) = false
holds_bytes (Set name x) = false
holds_bytes (Reserve size x) = false
holds_bytes (Org x) = false
holds_bytes Even = false
holds_bytes End = false

-- whether the segment behind a statement is code
abbrev pub code_after : Bool → ActionTree → Bool
code_after code (Cseg at) = true
code_after code (Dseg at) = false
code_after code (Rseg at) = false
code_after code Bare = code
code_after code (Module name stack) = code
code_after code (Sseg size) = code
code_after code (Public names) = code
code_after code (Extrn names) = code
code_after code (Equ name x) = code
code_after code (Set name x) = code
code_after code (Define size items) = code
code_after code (Reserve size x) = code
code_after code (Org x) = code
code_after code Even = code
code_after code End = code
code_after code (Operation name args) = code

abbrev pub code_behind : Bool → Result ActionTree ℕ → Bool
code_behind code (Ok a) = code_after code a
code_behind code (Err e) = code

-- first: no line with words stands before; code: the segment is code
abbrev pub code_at : Bool → Bool → Result ActionTree ℕ → Option ℕ
code_at first code (Err e) = Some e
code_at first code (Ok a) =
    if is_module a && not first then Some second_module
    else (if holds_bytes a && not code then Some outside_code else None)

unfoldable pub line_faults : Bool → Bool → List Said → List Fault
line_faults first code [] = []
line_faults first code (s ∷ ss) = option_to_list (at_line s.line (code_at first code s.action)) ++ line_faults false (code_behind code s.action) ss

-- ---- names: each is defined once (a label or by EQU) or again and again (by SET), taken (by EXTRN) or given (by PUBLIC)

abbrev pub use_of : ℕ → UseKind → List ℕ → Use
use_of line kind name = record { line = line; name = name; kind = kind }

abbrev pub label_uses : ℕ → Option (List ℕ) → List Use
label_uses line None = []
label_uses line (Some name) = use_of line Once name ∷ []

abbrev pub action_uses : ℕ → ActionTree → List Use
action_uses line (Equ name x) = use_of line Once name ∷ []
action_uses line (Set name x) = use_of line Again name ∷ []
action_uses line (Extrn names) = map (use_of line Taken) names
action_uses line (Public names) = map (use_of line Given) names
action_uses line Bare = []
action_uses line (Module name stack) = []
action_uses line (Cseg at) = []
action_uses line (Dseg at) = []
action_uses line (Rseg at) = []
action_uses line (Sseg size) = []
action_uses line (Define size items) = []
action_uses line (Reserve size x) = []
action_uses line (Org x) = []
action_uses line Even = []
action_uses line End = []
action_uses line (Operation name args) = []

abbrev pub read_uses : ℕ → Result ActionTree ℕ → List Use
read_uses line (Ok a) = action_uses line a
read_uses line (Err e) = []

abbrev pub uses_of : Said → List Use
uses_of s = label_uses s.line s.label ++ read_uses s.line s.action

unfoldable pub all_uses : List Said → List Use
all_uses [] = []
all_uses (s ∷ ss) = uses_of s ++ all_uses ss

abbrev pub is_once : UseKind → Bool
is_once Once = true
is_once Again = false
is_once Taken = false
is_once Given = false

abbrev pub is_again : UseKind → Bool
is_again Again = true
is_again Once = false
is_again Taken = false
is_again Given = false

abbrev pub is_taken : UseKind → Bool
is_taken Taken = true
is_taken Once = false
is_taken Again = false
is_taken Given = false

-- whether some of the uses is of this kind and this name
unfoldable pub has_use : (UseKind → Bool) → List ℕ → List Use → Bool
has_use of_kind name us = list_any (λ u. of_kind u.kind && bytes_eq name u.name) us

abbrev pub is_defined : List ℕ → List Use → Bool
is_defined name us = has_use is_once name us || has_use is_again name us

abbrev pub is_named : List ℕ → List Use → Bool
is_named name us = is_defined name us || has_use is_taken name us

-- a use that brings a name that none of the earlier ones has
abbrev pub brings_name : Use → List Use → Bool
brings_name u earlier = (is_once u.kind || is_again u.kind || is_taken u.kind) && not (is_named u.name earlier)

-- how many names the uses bring, the latest first
unfoldable pub name_count : List Use → ℕ
name_count [] = 0
name_count (u ∷ us) = name_count us + (if brings_name u us then 1 else 0)

-- a module has 16,384 names at most
abbrev pub is_one_too_many : Use → List Use → Bool
is_one_too_many u earlier = brings_name u earlier && nat_le 16384 (name_count earlier)

-- the code of a use: all are all uses of the source, earlier those before it, the latest first
abbrev pub use_code : UseKind → List ℕ → Bool → List Use → List Use → Option ℕ
use_code Once name too_many all earlier = if is_defined name earlier then Some defined_twice else (if too_many then Some many_names else None)
use_code Again name too_many all earlier = if has_use is_once name earlier then Some defined_twice else (if too_many then Some many_names else None)
use_code Taken name too_many all earlier = if too_many then Some many_names else (if has_use is_taken name earlier || is_defined name all then Some not_external else None)
use_code Given name too_many all earlier = if is_defined name all then None else Some not_public

unfoldable pub name_faults : List Use → List Use → List Use → List Fault
name_faults all earlier [] = []
name_faults all earlier (u ∷ us) =
    option_to_list (at_line u.line (use_code u.kind u.name (is_one_too_many u earlier) all earlier)) ++ name_faults all (u ∷ earlier) us

-- ---- the whole

unfoldable pub faults_of : List Line → List Fault
faults_of ls = line_faults true true (all_said ls) ++ name_faults (all_uses (all_said ls)) [] (all_uses (all_said ls))

abbrev pub stmt_said : Stmt → Said
stmt_said s = record { line = s.line; label = s.label; action = Ok (action_tree s.action) }

-- what a call answers: the statements that the lines say, where no line has a fault; else the first fault
pub record AreStatements (answered : List Stmt) (ls : List Line) : Type 0 where
  pub sound : least (faults_of ls) ≡ None
  pub said_by : map stmt_said answered ≡ all_said ls

abbrev pub IsStatements : Result (Vec Stmt) SourceFault → List Line → Type 0
IsStatements (Ok stmts) ls = AreStatements stmts.items ls
IsStatements (Err (faults.At line code)) ls = least (faults_of ls) ≡ Some (line, code)
IsStatements (Err faults.NoMemory) ls = Unit {0}
