-- The externals of a module: the names that EXTRN takes, in the order of their declaration, and STACK, the address after
-- the stack, where it is first used (after the MCS-96 Macro Assembler User's Guide, "EXTRN" and "SSEG").
use Rattle.std.specs.Prelude.{ℕ, ◌+◌, Bool, false, not, ◌&&◌, ◌||◌, if◌then◌else◌, List, [], ◌∷◌, ◌++◌, map, codes, Option, Some, None, Ok, Err}
use Rattle.std.specs.List.{list_any}
use Rattle.std.specs.Str.{bytes_eq}
use Rattle.kc_lex.specs.declared.fault.SourceCode.TheVariants.{NotDefined}
use Rattle.kc_obj_module.specs.declared.parts.SegKind.{SegKind}
use Rattle.kc_obj_module.specs.declared.parts.Taken.{Taken}
use Rattle.kc_obj_module.specs.Pieces.{is_register_kind}
use Rattle.kc_expr.specs.declared.values.Base.TheVariants.{External}
use Rattle.kc_expr.specs.declared.values.Tag.{Tag}
use Rattle.kc_expr.specs.declared.values.Tag.TheVariants.{Register, Memory}
use Rattle.kc_expr.specs.declared.values.NoValue.TheVariants.{Fault}
use Rattle.kc_expr.specs.Tree.{Tree, Number, Chars, Name, Here, One, Two}
use Rattle.kc_expr.specs.Meaning.{Answer}
use Rattle.kc_source_statement.specs.Trees.{ActionTree, ArgTree, ItemTree}
use Rattle.kc_source_statement.specs.Trees as trees
use Rattle.kc_asm_symbols.specs.Located.{Located}

abbrev pub stack_name : List ℕ
stack_name = codes "STACK"

unfoldable pub uses_stack : Tree → Bool
uses_stack (Number n) = false
uses_stack (Chars cs) = false
uses_stack (Name n) = bytes_eq n stack_name
uses_stack Here = false
uses_stack (One op e) = uses_stack e
uses_stack (Two op a b) = uses_stack a || uses_stack b

-- ---- the expressions of a statement

abbrev pub optional_tree : Option Tree → List Tree
optional_tree None = []
optional_tree (Some x) = x ∷ []

abbrev pub arg_trees : ArgTree → List Tree
arg_trees (trees.Plain x) = x ∷ []
arg_trees (trees.Immediate x) = x ∷ []
arg_trees (trees.Indirect r) = r ∷ []
arg_trees (trees.Increment r) = r ∷ []
arg_trees (trees.Indexed x r) = x ∷ r ∷ []

abbrev pub item_trees : ItemTree → List Tree
item_trees (trees.Value x) = x ∷ []
item_trees (trees.Chars cs) = []

unfoldable pub all_trees : {A : Type 0} → (A → List Tree) → List A → List Tree
all_trees trees_of [] = []
all_trees trees_of (x ∷ xs) = trees_of x ++ all_trees trees_of xs

abbrev pub action_trees : ActionTree → List Tree
action_trees (trees.Module name stack) = optional_tree stack
action_trees (trees.Cseg at) = optional_tree at
action_trees (trees.Dseg at) = optional_tree at
action_trees (trees.Rseg at) = optional_tree at
action_trees (trees.Sseg size) = size ∷ []
action_trees (trees.Equ name x) = x ∷ []
action_trees (trees.Set name x) = x ∷ []
action_trees (trees.Define size items) = all_trees item_trees items
action_trees (trees.Reserve size count) = count ∷ []
action_trees (trees.Org place) = place ∷ []
action_trees (trees.Operation name args) = all_trees arg_trees args
action_trees _ = []

-- ---- the list of externals

abbrev pub taken : Bool → List ℕ → Taken
taken register name = record { name = name; register = register }

-- those of one statement; used: STACK is in the list already
abbrev pub declared_names : ActionTree → List (List ℕ)
declared_names (trees.Extrn names) = names
declared_names _ = []

abbrev pub statement_uses_stack : ActionTree → Bool
statement_uses_stack action = list_any uses_stack (action_trees action)

abbrev pub declared : Bool → SegKind → ActionTree → List Taken
declared used kind action =
    map (taken (is_register_kind kind)) (declared_names action)
    ++ (if statement_uses_stack action && not used then taken false stack_name ∷ [] else [])

unfoldable pub externals_from : Bool → List Located → List Taken
externals_from used [] = []
externals_from used (l ∷ ls) = declared used l.segment.kind l.action ++ externals_from (used || statement_uses_stack l.action) ls

abbrev pub externals : List Located → List Taken
externals ls = externals_from false ls

-- ---- the value of an external

abbrev pub tag_of_taken : Taken → Tag
tag_of_taken t = if t.register then Register else Memory

-- the external with this name, where the first of the list has this number
unfoldable pub external_in : ℕ → List Taken → List ℕ → Answer
external_in n [] name = Err (Fault NotDefined)
external_in n (t ∷ ts) name =
    if bytes_eq name t.name then Ok (record { base = External n; tag = tag_of_taken t; number = 0 })
    else external_in (n + 1) ts name
