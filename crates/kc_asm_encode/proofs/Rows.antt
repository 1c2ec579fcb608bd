-- Which rows the table has: tried by computing.
use Rattle.std.proofs.Common.{◌≡◌, ℕ, Bool, true, false, List, [], ◌∷◌, refl, Some, None}
use Rattle.std.specs.Prelude.{◌==◌, ◌&&◌, ◌||◌, not, is_some, codes}
use Rattle.std.specs.List.{list_all}
use Rattle.std.specs.Str.{bytes_eq}
use Rattle.kc_isa.specs.declared.table.Shape.{Shape}
use Rattle.kc_isa.specs.declared.table.Shape.TheVariants.{Nothing, One, Two, Four, FourOne, FourTwo, Exchange, CountOne, Near, Conditional, BitTest, Loop, TableJump, Far, Key}
use Rattle.kc_isa.specs.Names.{Shown, row_at}
use Rattle.kc_isa.specs.Table.{plain_entry}
use Rattle.kc_lex.specs.declared.words.Operands.{Operands}
use Rattle.kc_lex.specs.declared.words.Operands.TheVariants as operands
use Rattle.kc_lex.specs.Instructions.{least, operands_of}
use Rattle.kc_lex.proofs.IndexLemmas.{each_form}
use Rattle.kc_asm_encode.specs.Branches.{jump_of, inverse_of}
use Rattle.kc_asm_encode.specs.Opcodes.{low_bits}

abbrev pub shape_number : Shape → ℕ
shape_number Nothing = 0
shape_number One = 1
shape_number Two = 2
shape_number Four = 3
shape_number FourOne = 4
shape_number FourTwo = 5
shape_number Exchange = 6
shape_number CountOne = 7
shape_number Near = 8
shape_number Conditional = 9
shape_number BitTest = 10
shape_number Loop = 11
shape_number TableJump = 12
shape_number Far = 13
shape_number Key = 14

abbrev pub is_row : List ℕ → Shape → ℕ → ℕ → Shown → Bool
is_row word shape low opcode row = bytes_eq row.name word && (shape_number row.shape == shape_number shape && low_bits shape opcode == low)

abbrev pub matches : List ℕ → Shape → ℕ → Bool → ℕ → Bool
matches word shape low signed opcode = elim (row_at opcode signed) [ None ↦ false | Some row ↦ is_row word shape low opcode row ]

unfoldable pub has_row : List ℕ → Shape → Bool → ℕ → Bool
has_row word shape signed low = is_some (least (matches word shape low signed) 256 0)

-- a row of the mnemonic, for each of some low bits
abbrev pub has_rows : Shape → List ℕ → List ℕ → Bool
has_rows shape lows word = list_all (λ low. has_row word shape false low || has_row word shape true low) lows

-- all rows of a mnemonic have one shape, and none stands behind FEH
abbrev pub is_other : List ℕ → Shape → Shown → Bool
is_other word shape row = bytes_eq row.name word && not (shape_number row.shape == shape_number shape)

abbrev pub differs : List ℕ → Shape → ℕ → Bool
differs word shape opcode = elim (row_at opcode false) [ None ↦ false | Some row ↦ is_other word shape row ]

abbrev pub is_signed : List ℕ → ℕ → Bool
is_signed word opcode = elim (row_at opcode true) [ None ↦ false | Some row ↦ bytes_eq row.name word ]

unfoldable pub has_one_shape : Shape → List ℕ → Bool
has_one_shape shape word = not (is_some (least (differs word shape) 256 0)) && not (is_some (least (is_signed word) 256 0))

-- ---- the rows of instructions, by the operands that they take

abbrev pub Zero : List ℕ
Zero = 0 ∷ []

-- the modes of S, and those of a place, which is no number
abbrev pub Modes : List ℕ
Modes = 0 ∷ 1 ∷ 2 ∷ 3 ∷ []

abbrev pub Places : List ℕ
Places = 0 ∷ 2 ∷ 3 ∷ []

abbrev pub Bits : List ℕ
Bits = 0 ∷ 1 ∷ 2 ∷ 3 ∷ 4 ∷ 5 ∷ 6 ∷ 7 ∷ []

abbrev pub rows_for : List ℕ → Operands → Bool
rows_for word operands.Nothing = has_rows Nothing Zero word
rows_for word operands.One = has_rows One Zero word || (has_rows Near Zero word || (has_rows Far Zero word || has_rows Conditional Zero word))
rows_for word operands.Source = has_rows Four Modes word
rows_for word operands.Place = has_rows Four Places word
rows_for word operands.Two = has_rows FourOne Modes word
rows_for word operands.TwoOrThree = has_rows FourOne Modes word && has_rows FourTwo Modes word
rows_for word operands.Store = has_rows FourOne Places word
rows_for word operands.Exchange = has_rows Exchange (0 ∷ 3 ∷ []) word
rows_for word operands.Shift = has_rows CountOne Zero word
rows_for word operands.Pair = has_rows Two Zero word || has_rows Loop Zero word
rows_for word operands.Triple = has_rows BitTest Bits word
rows_for word operands.Branch = has_rows One Zero word
rows_for word operands.Table = has_rows TableJump Zero word
rows_for word operands.Key = has_rows Key Zero word

-- tried over the index of the table
pub operand_rows : (word : List ℕ) (form : Operands) → operands_of word ≡ Some form → rows_for word form ≡ true
unfolding has_row least row_at plain_entry
operand_rows word form e = each_form rows_for refl word form e

-- BR alone leads to a plain target or to an address in a register
abbrev is_branch_word : List ℕ → Operands → Bool
is_branch_word word operands.Branch = bytes_eq word (codes "BR")
is_branch_word word form = true

pub branch_is_br : (word : List ℕ) → operands_of word ≡ Some operands.Branch → bytes_eq word (codes "BR") ≡ true
unfolding row_at plain_entry
branch_is_br word e = each_form is_branch_word refl word operands.Branch e

-- ---- the jumps that stand for generic branches

abbrev pub near_words : List (List ℕ)
near_words = codes "SJMP" ∷ codes "SCALL" ∷ []

pub near_rows : list_all (has_rows Near Zero) near_words ≡ true
unfolding has_row least row_at plain_entry
near_rows = refl

pub near_shape : list_all (has_one_shape Near) near_words ≡ true
unfolding has_one_shape least row_at plain_entry
near_shape = refl

abbrev pub far_words : List (List ℕ)
far_words = codes "LJMP" ∷ codes "LCALL" ∷ []

pub far_rows : list_all (has_rows Far Zero) far_words ≡ true
unfolding has_row least row_at plain_entry
far_rows = refl

pub far_shape : list_all (has_one_shape Far) far_words ≡ true
unfolding has_one_shape least row_at plain_entry
far_shape = refl

abbrev pub branch_words : List (List ℕ)
branch_words = codes "BR" ∷ []

-- the jumps of a generic branch
abbrev pub is_branch_row : Shape → List ℕ → List ℕ → Bool
is_branch_row shape lows word =
    (has_rows shape lows (jump_of word) && has_one_shape shape (jump_of word)) && (has_rows shape lows (inverse_of word) && has_one_shape shape (inverse_of word))

abbrev pub generic_words : List (List ℕ)
generic_words = codes "BE" ∷ codes "BNE" ∷ codes "BH" ∷ codes "BNH" ∷ codes "BGT" ∷ codes "BLE" ∷ codes "BGE" ∷ codes "BLT" ∷ codes "BC" ∷ codes "BNC" ∷ codes "BV" ∷ codes "BNV" ∷ codes "BVT" ∷ codes "BNVT" ∷ codes "BST" ∷ codes "BNST" ∷ []

pub generic_rows : list_all (is_branch_row Conditional (0 ∷ [])) generic_words ≡ true
unfolding has_row has_one_shape least row_at plain_entry jump_of inverse_of
generic_rows = refl

abbrev pub tested_words : List (List ℕ)
tested_words = codes "BBC" ∷ codes "BBS" ∷ []

pub tested_rows : list_all (is_branch_row BitTest (0 ∷ 1 ∷ 2 ∷ 3 ∷ 4 ∷ 5 ∷ 6 ∷ 7 ∷ [])) tested_words ≡ true
unfolding has_row has_one_shape least row_at plain_entry jump_of inverse_of
tested_rows = refl

pub branch_shape : list_all (has_one_shape One) branch_words ≡ true
unfolding has_one_shape least row_at plain_entry
branch_shape = refl
