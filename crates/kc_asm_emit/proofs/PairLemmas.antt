-- The bytes of data are paired.
use Rattle.std.proofs.Common.{ℕ, Bool, true, false, cond, List, [], ◌∷◌, ◌++◌, map, refl}
use Rattle.std.specs.Prelude.{◌==◌}
use Rattle.std.specs.Int.{w32, to_le_bytes}
use Rattle.kc_expr.specs.declared.values.Value.{Value}
use Rattle.kc_expr.specs.Tree.{Tree, Number, Chars, Name, Here, One, Two}
use Rattle.kc_source_statement.specs.Trees.{ItemTree, ActionTree}
use Rattle.kc_source_statement.specs.Trees as trees
use Rattle.kc_asm_encode.specs.declared.relocatable_byte.RelocatableByte.{RelocatableByte}
use Rattle.kc_asm_encode.specs.declared.relocatable_byte.RelocatableByte.TheVariants.{Plain}
use Rattle.kc_branch.specs.declared.piece.Form.{Form}
use Rattle.kc_asm_encode.specs.Values.{or_zero}
use Rattle.kc_asm_encode.specs.RelocatableBytes.{byte_of, word_of}
use Rattle.kc_asm_encode.specs.Pairs.{IsPaired}
use Rattle.kc_asm_encode.specs.Laws.{RelocatableBytesArePaired}
use Rattle.kc_asm_encode.proofs.Paired.{paired-append}
use Rattle.kc_asm_emit.specs.Arguments.{Look, value_of, fixed_of, arguments}
use Rattle.kc_asm_emit.specs.Content.{long_relocatables, item_relocatables, data_relocatables, reserved, upto, content}
use Rattle.kc_asm_emit.specs.Pairing.{ArePaired}
use Rattle.std.specs.Prelude.{Option, Some, None}

plain_bytes : (bs : List ℕ) → IsPaired (map Plain bs)
plain_bytes [] = refl
plain_bytes (b ∷ bs) = (tt, plain_bytes bs)

wide : (v : Value) → IsPaired (word_of 0 v ++ (Plain 0 ∷ Plain 0 ∷ []))
wide v = (tt, ((refl, refl), (tt, (tt, refl))))

long_pairs : (look : Look) (x : Tree) → IsPaired (long_relocatables look x)
long_pairs look (Number n) = plain_bytes (to_le_bytes w32 n)
long_pairs look (Chars cs) = wide (or_zero (value_of look (Chars cs)))
long_pairs look (Name n) = wide (or_zero (value_of look (Name n)))
long_pairs look Here = wide (or_zero (value_of look Here))
long_pairs look (One op e) = wide (or_zero (value_of look (One op e)))
long_pairs look (Two op a b) = wide (or_zero (value_of look (Two op a b)))

chosen : (byte word : Bool) (a b c : List RelocatableByte) → IsPaired a → IsPaired b → IsPaired c → IsPaired (cond byte a (cond word b c))
chosen true word a b c first second third = first
chosen false true a b c first second third = second
chosen false false a b c first second third = third

item_pairs : (look : Look) (size : ℕ) (item : ItemTree) → IsPaired (item_relocatables look size item)
item_pairs look size (trees.Chars cs) = plain_bytes cs
item_pairs look size (trees.Value x) =
    let v = or_zero (value_of look x) in
    chosen (size == 1) (size == 2) (byte_of v ∷ []) (word_of 0 v) (long_relocatables look x) (tt, refl) (tt, ((refl, refl), refl)) (long_pairs look x)

data_pairs : (look : Look) (size : ℕ) (items : List ItemTree) → IsPaired (data_relocatables look size items)
data_pairs look size [] = refl
data_pairs look size (i ∷ is) = paired-append (item_relocatables look size i) (data_relocatables look size is) (item_pairs look size i) (data_pairs look size is)

reserved_pairs : (size : ℕ) (count : Option ℕ) → ArePaired (reserved size count)
reserved_pairs size None = tt
reserved_pairs size (Some n) = tt

upto_pairs : (place : Option ℕ) → ArePaired (upto place)
upto_pairs None = tt
upto_pairs (Some n) = tt

pub content_pairs : RelocatableBytesArePaired → (look : Look) (form : Form) (place : Value) (action : ActionTree) → ArePaired (content look form place action)
content_pairs paired look form place (trees.Define size items) = data_pairs look size items
content_pairs paired look form place (trees.Reserve size count) = reserved_pairs size (fixed_of look count)
content_pairs paired look form place (trees.Org x) = upto_pairs (fixed_of look x)
content_pairs paired look form place trees.Even = tt
content_pairs paired look form place (trees.Operation word args) = paired word (arguments look args) form place
content_pairs paired look form place trees.Bare = tt
content_pairs paired look form place (trees.Module name stack) = tt
content_pairs paired look form place (trees.Cseg at) = tt
content_pairs paired look form place (trees.Dseg at) = tt
content_pairs paired look form place (trees.Rseg at) = tt
content_pairs paired look form place (trees.Sseg size) = tt
content_pairs paired look form place (trees.Public names) = tt
content_pairs paired look form place (trees.Extrn names) = tt
content_pairs paired look form place (trees.Equ name x) = tt
content_pairs paired look form place (trees.Set name x) = tt
content_pairs paired look form place trees.End = tt
