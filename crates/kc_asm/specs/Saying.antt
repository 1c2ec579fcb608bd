-- What a statement says once the bases are known: instructions, or bytes of data
-- (after the MCS-96 Macro Assembler User's Guide, "Data Definition"; 80C196KC User's Manual, "Instruction Format").
use Rattle.std.specs.Prelude.{ℕ, ◌/◌, ◌%◌, ◌==◌, if◌then◌else◌, List, [], ◌∷◌, ◌++◌}
use Rattle.std.specs.Int.{w32, to_le_bytes}
use Rattle.std.specs.List.{flat_map}
use Rattle.kc_isa.specs.declared.insn.Insn.{Insn}
use Rattle.kc_expr.specs.Tree.{Tree, Number}
use Rattle.kc_source_statement.specs.Trees.{ItemTree, ActionTree, Define, Operation}
use Rattle.kc_source_statement.specs.Trees as trees
use Rattle.kc_asm_symbols.specs.Located.{Located}
use Rattle.kc_obj_module.specs.Numbers.{Bases}
use Rattle.kc_asm_encode.specs.Filling.{address}
use Rattle.kc_branch.specs.declared.piece.Form.{Form}
use Rattle.kc_asm_encode.specs.Values.{or_zero}
use Rattle.kc_asm_encode.specs.Instructions.{instructions}
use Rattle.kc_asm_encode.specs.Said.{said}
use Rattle.kc_asm_emit.specs.Arguments.{Look, value_of, arguments}

-- the number of a value, once the bases are known
abbrev pub number_of : Bases → Look → Tree → ℕ
number_of bases look x = address bases (or_zero (value_of look x))

-- the low byte first
abbrev pub word_bytes : ℕ → List ℕ
word_bytes n = n % 256 ∷ n / 256 ∷ []

abbrev pub long_bytes : Bases → Look → Tree → List ℕ
long_bytes bases look (Number n) = to_le_bytes w32 n
long_bytes bases look x = word_bytes (number_of bases look x) ++ (0 ∷ 0 ∷ [])

abbrev pub item_bytes : Bases → Look → ℕ → ItemTree → List ℕ
item_bytes bases look size (trees.Value x) =
    if size == 1 then number_of bases look x ∷ []
    else if size == 2 then word_bytes (number_of bases look x)
    else long_bytes bases look x
item_bytes bases look size (trees.Chars cs) = cs

abbrev pub data_of : Bases → Look → ActionTree → List ℕ
data_of bases look (Define size items) = flat_map (item_bytes bases look size) items
data_of bases look action = []

-- where the statement stands at an address; a generic branch has a form
abbrev pub code_of : Bases → ℕ → Look → Form → Located → ActionTree → List Insn
code_of bases place look form l (Operation word args) = said bases place (instructions word (arguments look args) form l.here)
code_of bases place look form l action = []
