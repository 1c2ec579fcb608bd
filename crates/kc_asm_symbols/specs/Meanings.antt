-- What names mean at a statement. EQU and SET use names of earlier lines and any labels; every other statement uses all
-- names of the module, and of a name that SET defines the latest value before it. A fault of a definition is reported there
-- alone: at a use the name has no value, but that is no fault (after the MCS-96 Macro Assembler User's Guide, "EQU and SET").
use Rattle.std.specs.Prelude.{ℕ, Bool, true, false, ◌||◌, if◌then◌else◌, List, [], ◌∷◌, reverse, Option, Some, None, Ok, Err}
use Rattle.std.specs.List.{list_any}
use Rattle.std.specs.Str.{bytes_eq}
use Rattle.kc_lex.specs.declared.fault.SourceCode.TheVariants.{NotDefined}
use Rattle.kc_expr.specs.declared.values.Value.{Value}
use Rattle.kc_expr.specs.declared.values.NoValue.TheVariants.{Fault, ReportedElsewhere}
use Rattle.kc_expr.specs.Tree.{Tree}
use Rattle.kc_expr.specs.Meaning.{Answer, answer_by, here}
use Rattle.kc_source_statement.specs.Trees.{ActionTree, Bare, Module, Cseg, Dseg, Rseg, Sseg, Public, Extrn, Equ, Set, Define, Reserve, Org, Even, End, Operation}
use Rattle.kc_asm_symbols.specs.Located.{Located}
use Rattle.kc_asm_symbols.specs.Externals.{externals, external_in, stack_name, declared_names}

abbrev pub or_reported : Answer → Answer
or_reported (Ok v) = Ok v
or_reported (Err fault) = Err ReportedElsewhere

-- ---- names that mean the same at every line: labels, and STACK

abbrev pub is_label : List ℕ → Option (List ℕ) → Bool
is_label name None = false
is_label name (Some label) = bytes_eq name label

unfoldable pub label_answer : List Located → List ℕ → Answer
label_answer [] name = Err (Fault NotDefined)
label_answer (l ∷ ls) name = if is_label name l.label then Ok l.here else label_answer ls name

-- of two answers the first that is a value
abbrev pub first_of : Answer → Answer → Answer
first_of (Ok v) rest = Ok v
first_of (Err fault) rest = rest

abbrev pub external_answer : List Located → List ℕ → Answer
external_answer all = external_in 0 (externals all)

abbrev pub everywhere : List Located → List ℕ → Answer
everywhere all name = if bytes_eq name stack_name then external_answer all name else label_answer all name

-- ---- names that statements define

-- `$` is the statement's own place
abbrev pub with_here : Value → (List ℕ → Answer) → List ℕ → Answer
with_here place look name = if bytes_eq name here then Ok place else look name

abbrev pub is_taken_by : ActionTree → List ℕ → Bool
is_taken_by action name = list_any (bytes_eq name) (declared_names action)

-- the expression by which a statement defines a name
abbrev pub defines : ActionTree → List ℕ → Option Tree
defines (Equ defined x) name = if bytes_eq name defined then Some x else None
defines (Set defined x) name = if bytes_eq name defined then Some x else None
defines Bare name = None
defines (Module _ stack) name = None
defines (Cseg at) name = None
defines (Dseg at) name = None
defines (Rseg at) name = None
defines (Sseg size) name = None
defines (Public names) name = None
defines (Extrn names) name = None
defines (Define size items) name = None
defines (Reserve size x) name = None
defines (Org x) name = None
defines Even name = None
defines End name = None
defines (Operation _ args) name = None

-- a statement's own definition of a name goes before what it meant so far
abbrev pub by_definition : Option Tree → (List ℕ → Answer) → Answer → Answer
by_definition None look rest = rest
by_definition (Some x) look rest = or_reported (answer_by look x)

-- what a name means behind a statement at a place, by what names mean before it
abbrev pub behind : (List ℕ → Answer) → ActionTree → Value → (List ℕ → Answer) → List ℕ → Answer
behind external action place look name =
    if is_taken_by action name then external name else by_definition (defines action name) (with_here place look) (look name)

-- what a name means by the statements before one, the latest first, among all statements
unfoldable pub earlier : List Located → List Located → List ℕ → Answer
earlier all [] = everywhere all
earlier all (l ∷ before) = behind (external_answer all) l.action l.here (earlier all before)

-- a label where it stands, if no earlier label has its name
abbrev pub with_label : Option (List ℕ) → Value → (List ℕ → Answer) → List ℕ → Answer
with_label label place look name = first_of (look name) (if is_label name label then Ok place else look name)

-- a name that EQU or SET defines at a place
abbrev pub with_defined : List ℕ → Tree → Value → (List ℕ → Answer) → List ℕ → Answer
with_defined defined x place look name = by_definition (if bytes_eq name defined then Some x else None) (with_here place look) (look name)

-- names that EXTRN takes
abbrev pub with_taken : (List ℕ → Answer) → List (List ℕ) → (List ℕ → Answer) → List ℕ → Answer
with_taken external names look name = if list_any (bytes_eq name) names then external name else look name

-- ---- what names mean in a statement

abbrev pub is_set_by : ActionTree → List ℕ → Bool
is_set_by (Set defined x) name = bytes_eq name defined
is_set_by (Equ defined x) name = false
is_set_by Bare name = false
is_set_by (Module _ stack) name = false
is_set_by (Cseg at) name = false
is_set_by (Dseg at) name = false
is_set_by (Rseg at) name = false
is_set_by (Sseg size) name = false
is_set_by (Public names) name = false
is_set_by (Extrn names) name = false
is_set_by (Define size items) name = false
is_set_by (Reserve size x) name = false
is_set_by (Org x) name = false
is_set_by Even name = false
is_set_by End name = false
is_set_by (Operation _ args) name = false

unfoldable pub is_set : List Located → List ℕ → Bool
is_set all name = list_any (λ l. is_set_by l.action name) all

-- the names that SET defines, with those of one statement more
abbrev pub with_set : ActionTree → (List ℕ → Bool) → List ℕ → Bool
with_set action marked name = is_set_by action name || marked name

abbrev pub is_definition : ActionTree → Bool
is_definition (Equ name x) = true
is_definition (Set name x) = true
is_definition Bare = false
is_definition (Module name stack) = false
is_definition (Cseg at) = false
is_definition (Dseg at) = false
is_definition (Rseg at) = false
is_definition (Sseg size) = false
is_definition (Public names) = false
is_definition (Extrn names) = false
is_definition (Define size items) = false
is_definition (Reserve size x) = false
is_definition (Org x) = false
is_definition Even = false
is_definition End = false
is_definition (Operation name args) = false

-- by all statements
abbrev pub in_all : List Located → List ℕ → Answer
in_all all = earlier all (reverse all)

-- by all statements, but of what SET defines the latest value
abbrev pub throughout : List Located → List Located → List ℕ → Answer
throughout all before name = if is_set all name then earlier all before name else in_all all name

-- what the names in a statement mean, where these statements stand before it, the latest first
abbrev pub meaning : List Located → List Located → Located → List ℕ → Answer
meaning all before l = with_here l.here (if is_definition l.action then earlier all before else throughout all before)
