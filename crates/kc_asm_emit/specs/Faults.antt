-- The faults of a statement's values: what its expressions have, 10 where a value must be fixed and is not, and those of an
-- operation's operands (after the MCS-96 Macro Assembler User's Guide, "Expressions"; the codes are this kit's own).
use Rattle.std.specs.Prelude.{ℕ, ◌==◌, ◌||◌, if◌then◌else◌, List, [], ◌∷◌, ◌++◌, Option, Some, None, Ok, Err}
use Rattle.std.specs.List.{flat_map}
use Rattle.std.specs.Option.{option_to_list}
use Rattle.kc_lex.specs.Codes.{code_number, lesser_number, not_fixed}
use Rattle.kc_expr.specs.declared.values.NoValue.{NoValue}
use Rattle.kc_expr.specs.declared.values.NoValue.TheVariants.{Fault, ReportedElsewhere}
use Rattle.kc_expr.specs.Tree.{Tree, Number}
use Rattle.kc_expr.specs.Meaning.{Answer, answer_by, is_fixed}
use Rattle.kc_source_statement.specs.Trees.{ItemTree, ArgTree, ActionTree, Bare, Module, Cseg, Dseg, Rseg, Sseg, Public, Extrn, Equ, Set, Define, Reserve, Org, Even, End, Operation}
use Rattle.kc_source_statement.specs.Trees as trees
use Rattle.kc_asm_encode.specs.Faults.{fault_of}
use Rattle.kc_asm_emit.specs.Arguments.{Look, arguments}

-- ---- expressions

-- a fault that is reported elsewhere is none here
abbrev pub reported_here : NoValue → List ℕ
reported_here (Fault code) = code_number code ∷ []
reported_here ReportedElsewhere = []

abbrev pub faults_in : Answer → List ℕ
faults_in (Ok v) = []
faults_in (Err fault) = reported_here fault

abbrev pub value_faults : Look → Tree → List ℕ
value_faults look x = faults_in (answer_by look x)

-- where the value has to be fixed
abbrev pub unless_fixed : Answer → List ℕ
unless_fixed (Ok v) = if is_fixed v.base then [] else not_fixed ∷ []
unless_fixed (Err fault) = reported_here fault

abbrev pub fixed_faults : Look → Tree → List ℕ
fixed_faults look x = unless_fixed (answer_by look x)

abbrev pub part_faults : Look → Option Tree → List ℕ
part_faults look None = []
part_faults look (Some x) = fixed_faults look x

-- ---- items of data: a plain number of DCL may have 32 bits

abbrev pub long_faults : Look → Tree → List ℕ
long_faults look (Number n) = []
long_faults look x = value_faults look x

abbrev pub item_faults : Look → ℕ → ItemTree → List ℕ
item_faults look size (trees.Value x) = if (size == 1) || (size == 2) then value_faults look x else long_faults look x
item_faults look size (trees.Chars cs) = []

-- ---- operands

abbrev pub operand_faults : Look → ArgTree → List ℕ
operand_faults look (trees.Plain x) = value_faults look x
operand_faults look (trees.Immediate x) = value_faults look x
operand_faults look (trees.Indirect r) = value_faults look r
operand_faults look (trees.Increment r) = value_faults look r
operand_faults look (trees.Indexed x r) = value_faults look x ++ value_faults look r

-- ---- statements

abbrev pub faults_of : Look → ActionTree → List ℕ
faults_of look (Module name stack) = part_faults look stack
faults_of look (Cseg at) = part_faults look at
faults_of look (Dseg at) = part_faults look at
faults_of look (Rseg at) = part_faults look at
faults_of look (Sseg size) = fixed_faults look size
faults_of look (Equ name x) = value_faults look x
faults_of look (Set name x) = value_faults look x
faults_of look (Define size items) = flat_map (item_faults look size) items
faults_of look (Reserve size count) = fixed_faults look count
faults_of look (Org x) = fixed_faults look x
faults_of look (Operation word args) = flat_map (operand_faults look) args ++ option_to_list (fault_of word (arguments look args))
faults_of look Bare = []
faults_of look (Public names) = []
faults_of look (Extrn names) = []
faults_of look Even = []
faults_of look End = []

-- ---- the least of some codes

unfoldable pub least : List ℕ → Option ℕ
least [] = None
least (code ∷ more) = lesser_number (Some code) (least more)
