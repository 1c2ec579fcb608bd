-- What a statement puts into the piece in which it stands, over what each name answers. Data are bytes, words or long
-- words, the low byte first (after the MCS-96 Macro Assembler User's Guide, "Data Definition" and "Storage Reservation").
use Rattle.std.specs.Prelude.{ℕ, ◌+◌, ◌*◌, ◌==◌, if◌then◌else◌, List, [], ◌∷◌, ◌++◌, map, length, Option, Some, None}
use Rattle.std.specs.Int.{w32, to_le_bytes}
use Rattle.std.specs.List.{flat_map}
use Rattle.kc_expr.specs.declared.values.Value.{Value}
use Rattle.kc_expr.specs.Tree.{Tree, Number}
use Rattle.kc_source_statement.specs.Trees.{ItemTree, ActionTree}
use Rattle.kc_source_statement.specs.Trees as trees
use Rattle.kc_asm_encode.specs.declared.relocatable_byte.RelocatableByte.{RelocatableByte}
use Rattle.kc_asm_encode.specs.declared.relocatable_byte.RelocatableByte.TheVariants.{Plain}
use Rattle.kc_branch.specs.declared.piece.Form.{Form}
use Rattle.kc_asm_encode.specs.Values.{or_zero}
use Rattle.kc_asm_encode.specs.Instructions.{instructions}
use Rattle.kc_asm_encode.specs.RelocatableBytes.{byte_of, word_of, all_relocatable_bytes}
use Rattle.kc_asm_emit.specs.declared.extent.Extent.{Extent}
use Rattle.kc_asm_emit.specs.declared.extent.Extent.TheVariants as extent
use Rattle.kc_asm_emit.specs.Arguments.{Look, value_of, fixed_of, arguments}

-- bytes, so many bytes that are reserved, or none; ORG goes on to a place, EVEN to an even one
pub data Content : Type 0 where
  Nothing : Content
  RelocatableBytes : (relocatable_bytes : List RelocatableByte) → Content
  Reserved : (bytes : ℕ) → Content
  Upto : (place : ℕ) → Content
  Even : Content

-- ---- data

-- a plain number of DCL has all its 32 bits; any other value is a word, with two bytes 0 behind it
abbrev pub long_relocatables : Look → Tree → List RelocatableByte
long_relocatables look (Number n) = map Plain (to_le_bytes w32 n)
long_relocatables look x = word_of 0 (or_zero (value_of look x)) ++ (Plain 0 ∷ Plain 0 ∷ [])

-- a value that is missing counts as 0
abbrev pub value_relocatables : Look → ℕ → Tree → List RelocatableByte
value_relocatables look size x =
    if size == 1 then byte_of (or_zero (value_of look x)) ∷ []
    else if size == 2 then word_of 0 (or_zero (value_of look x))
    else long_relocatables look x

-- a string stands as it is
abbrev pub item_relocatables : Look → ℕ → ItemTree → List RelocatableByte
item_relocatables look size (trees.Value x) = value_relocatables look size x
item_relocatables look size (trees.Chars cs) = map Plain cs

abbrev pub data_relocatables : Look → ℕ → List ItemTree → List RelocatableByte
data_relocatables look size items = flat_map (item_relocatables look size) items

-- how many bytes data have does not depend on values
abbrev pub item_count : ℕ → ItemTree → ℕ
item_count size (trees.Value x) = if size == 1 then 1 else if size == 2 then 2 else 4
item_count size (trees.Chars cs) = length cs

abbrev pub data_count : ℕ → List ItemTree → ℕ
data_count size [] = 0
data_count size (i ∷ is) = item_count size i + data_count size is

-- ---- statements

-- items of a size, as many as a fixed count says
abbrev pub reserved : ℕ → Option ℕ → Content
reserved size None = Reserved 0
reserved size (Some count) = Reserved (size * count)

abbrev pub upto : Option ℕ → Content
upto None = Nothing
upto (Some place) = Upto place

-- a generic branch has a form; the place where the statement stands is what the inverse jump of a longer form counts from
abbrev pub content : Look → Form → Value → ActionTree → Content
content look form place (trees.Define size items) = RelocatableBytes (data_relocatables look size items)
content look form place (trees.Reserve size count) = reserved size (fixed_of look count)
content look form place (trees.Org x) = upto (fixed_of look x)
content look form place trees.Even = Even
content look form place (trees.Operation word args) = RelocatableBytes (all_relocatable_bytes (instructions word (arguments look args) form place))
content look form place trees.Bare = Nothing
content look form place (trees.Module name stack) = Nothing
content look form place (trees.Cseg at) = Nothing
content look form place (trees.Dseg at) = Nothing
content look form place (trees.Rseg at) = Nothing
content look form place (trees.Sseg size) = Nothing
content look form place (trees.Public names) = Nothing
content look form place (trees.Extrn names) = Nothing
content look form place (trees.Equ name x) = Nothing
content look form place (trees.Set name x) = Nothing
content look form place trees.End = Nothing

-- ---- how far a statement goes on

abbrev pub extent_of : Content → Extent
extent_of Nothing = extent.Bytes 0
extent_of (RelocatableBytes os) = extent.Bytes (length os)
extent_of (Reserved n) = extent.Bytes n
extent_of (Upto place) = extent.Upto place
extent_of Even = extent.Even
