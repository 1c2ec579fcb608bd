-- What a source without fault says of its unlinked module.
use Rattle.std.specs.Prelude.{◌≡◌, ℕ, Bool, true, false, ◌+◌, ◌≤◌, ◌==◌, ◌&&◌, ◌||◌, not, nat_lt, nat_le, Option, Some, None, List, [], ◌∷◌, length}
use Rattle.std.specs.List.{list_all, IsDistinct, AllByRecursion}
use Rattle.kc_expr.specs.declared.values.Base.{Base}
use Rattle.kc_expr.specs.declared.values.Base.TheVariants.{Fixed, Absolute, Piece, External}
use Rattle.kc_expr.specs.declared.values.Value.{Value}
use Rattle.kc_obj_module.specs.declared.parts.SegKind.{SegKind}
use Rattle.kc_obj_module.specs.declared.parts.SegKind.TheVariants.{Reg, Code, Ram}
use Rattle.kc_obj_module.specs.Names.{is_name, is_stack_name}
use Rattle.kc_obj_module.specs.Pieces.{kind_number, in_region, is_relocatable}
use Rattle.kc_obj_module.specs.Numbers.{width}
use Rattle.kc_obj_module.specs.Fixups.{may_begin}
use Rattle.kc_asm_encode.specs.declared.relocatable_byte.RelocatableByte.{RelocatableByte}
use Rattle.kc_asm_encode.specs.declared.relocatable_byte.RelocatableByte.TheVariants.{Plain, First, Second}
use Rattle.kc_asm_section.specs.declared.part.PlacedByte.{PlacedByte}
use Rattle.kc_asm_section.specs.declared.unlinked.UnlinkedModule.{UnlinkedModule}
use Rattle.kc_asm_section.specs.declared.unlinked.Public.{Public}
use Rattle.kc_asm_section.specs.Section.{Section, placed_byte}
use Rattle.kc_asm_section.specs.Order.{kept_of, pieces_of}
use Rattle.kc_asm_section.specs.Publics.{is_same_name}

-- ---- relocatable bytes

-- the base of a value is a relocatable part or one of so many externals
abbrev pub base_exists : ℕ → Base → Bool
base_exists externals Fixed = true
base_exists externals Absolute = true
base_exists externals (Piece part) = nat_lt part 3
base_exists externals (External external) = nat_lt external externals

-- a number has a kind, a base that exists, and is added to 0 or to the opcode of a jump of 11 bits
abbrev pub is_relocatable_byte : ℕ → RelocatableByte → Bool
is_relocatable_byte externals (Plain b) = true
is_relocatable_byte externals (First kind start v) = nat_le kind 4 && may_begin kind (Some start) && base_exists externals v.base
is_relocatable_byte externals (Second kind v) = true

abbrev pub BeginsWithSecond : ℕ → ℕ → Value → List PlacedByte → Type 0
BeginsWithSecond kind offset v [] = ⊥
BeginsWithSecond kind offset v (c ∷ cs) = c ≡ placed_byte offset (Second kind v)

-- behind the first byte of a number of two bytes stands its second byte
abbrev pub IsComplete : PlacedByte → List PlacedByte → Type 0
IsComplete c cs = completes c.relocatable_byte
  where
    completes : RelocatableByte → Type 0
    completes (Plain b) = Unit {0}
    completes (First kind start v) = width kind ≡ 2 → BeginsWithSecond kind (c.offset + 1) v cs
    completes (Second kind v) = Unit {0}

unfoldable pub AreRelocatableBytes : ℕ → List PlacedByte → Type 0
AreRelocatableBytes externals [] = Unit {0}
AreRelocatableBytes externals (c ∷ cs) = (is_relocatable_byte externals c.relocatable_byte ≡ true) × IsComplete c cs × AreRelocatableBytes externals cs

-- ---- parts

-- relocatable bytes and statements stand in code alone
abbrev pub holds_code : Section → Bool
holds_code t = (kind_number t.kind == 1) || ((length t.placed_bytes == 0) && (length t.marks == 0))

pub record IsPart (externals : ℕ) (t : Section) : Type 0 where
  pub code : holds_code t ≡ true
  pub relocatable_bytes : AreRelocatableBytes externals t.placed_bytes
  pub lines : list_all (λ m. nat_lt 0 m.line) t.marks ≡ true

-- a relocatable part has at most FFFFH bytes
abbrev pub is_relocatable_part : SegKind → Section → Bool
is_relocatable_part kind t = (kind_number t.kind == kind_number kind) && is_relocatable t.at && nat_lt t.length 65536

abbrev pub stands_at : SegKind → ℕ → Option ℕ → Bool
stands_at kind size None = false
stands_at kind size (Some base) = in_region kind base size

-- an absolute part stays in the region of its kind
abbrev pub is_absolute_part : Section → Bool
is_absolute_part t = stands_at t.kind t.length t.at

-- the three relocatable parts, then absolute ones
abbrev pub stand_well : List Section → Bool
stand_well [] = false
stand_well (registers ∷ []) = false
stand_well (registers ∷ code ∷ []) = false
stand_well (registers ∷ code ∷ ram ∷ absolute) =
    is_relocatable_part Reg registers && is_relocatable_part Code code && is_relocatable_part Ram ram
    && list_all is_absolute_part absolute

-- ---- public names

abbrev pub is_given_base : Base → Bool
is_given_base Fixed = true
is_given_base Absolute = true
is_given_base (Piece part) = nat_lt part 3
is_given_base (External external) = false

abbrev pub is_public : Public → Bool
is_public p = is_name p.name && not (is_stack_name p.name) && is_given_base p.value.base

-- ---- the whole unlinked module

pub record IsUnlinkedModule (d : UnlinkedModule) : Type 0 where
  -- names are names; no public has the name of the stack, counts from an external, or has the name of another one
  pub name : is_name d.name ≡ true
  pub externals : list_all (λ t. is_name t.name) d.externals.items ≡ true
  pub publics : list_all is_public d.publics.items ≡ true
  pub distinct : IsDistinct is_same_name d.publics.items
  -- each part has its place and its length
  pub places : stand_well d.parts.items ≡ true
  -- each part has what it may have
  pub parts : AllByRecursion (IsPart (length d.externals.items)) d.parts.items
  -- each piece has a number
  pub count : length (pieces_of (kept_of d.parts.items d.publics.items) d.parts.items d.stack) ≤ 65536
