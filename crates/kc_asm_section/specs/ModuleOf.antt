-- The module that an unlinked module is.
use Rattle.std.specs.Prelude.{◌≡◌, ℕ, true, ◌+◌, Option, Some, None, List, [], ◌∷◌, ◌++◌, map, slice_get}
use Rattle.std.specs.List.Sorted.{IsPermutation}
use Rattle.std.specs.Option.{option_map}
use Rattle.kc_obj_module.specs.declared.parts.Fixup.{Fixup}
use Rattle.kc_obj_module.specs.declared.parts.Lines.{Lines}
use Rattle.kc_obj_module.specs.Object.{Object}
use Rattle.kc_obj_module.specs.Rules.{is_module}
use Rattle.kc_obj_module.specs.Contents.{content_at}
use Rattle.kc_obj_module.specs.Fixups.{fixup_at}
use Rattle.kc_asm_encode.specs.declared.relocatable_byte.RelocatableByte.{RelocatableByte}
use Rattle.kc_asm_section.specs.declared.unlinked.UnlinkedModule.{UnlinkedModule}
use Rattle.kc_asm_section.specs.Section.{Section, relocatable_byte_at}
use Rattle.kc_asm_section.specs.declared.kept.Kept.{Kept}
use Rattle.kc_asm_section.specs.Order.{kept_of, number_of, pieces_of, segment_of, relocation}
use Rattle.kc_asm_section.specs.Publics.{given_of}
use Rattle.kc_asm_section.specs.Puts.{byte_for, fixup_for, entry_of}

-- the byte that a piece, if there is one, has at an offset
abbrev pub byte_at : Option Section → ℕ → Option ℕ
byte_at None offset = None
byte_at (Some t) offset = option_map (byte_for t offset) (relocatable_byte_at t offset)

abbrev pub fixup_from : (ℕ → ℕ) → Section → ℕ → ℕ → Option RelocatableByte → Option Fixup
fixup_from number t piece offset None = None
fixup_from number t piece offset (Some relocatable_byte) = fixup_for number piece offset (relocation t relocatable_byte)

-- the relocation that a piece, if there is one, has at an offset
abbrev pub relocated_at : (ℕ → ℕ) → ℕ → Option Section → ℕ → Option Fixup
relocated_at number piece None offset = None
relocated_at number piece (Some t) offset = fixup_from number t piece offset (relocatable_byte_at t offset)

-- the line entries of the pieces from a number on
unfoldable pub entries_from : ℕ → List Section → List Lines
entries_from piece [] = []
entries_from piece (t ∷ ts) = map (entry_of piece) t.marks ++ entries_from (piece + 1) ts

abbrev pub kept_in : UnlinkedModule → Kept
kept_in d = kept_of d.parts.items d.publics.items

-- the pieces of the module
abbrev pub pieces_in : UnlinkedModule → List Section
pieces_in d = pieces_of (kept_in d) d.parts.items d.stack

-- bytes and relocations place by place: the rules of a module leave one list of runs and one of relocations
pub record IsModuleOf (d : UnlinkedModule) (m : Object) : Type 0 where
  pub rules : is_module m ≡ true
  pub name : m.name ≡ d.name
  pub segments : m.segments ≡ map segment_of (pieces_in d)
  pub externals : m.externals ≡ d.externals.items
  pub publics : IsPermutation (map (given_of (number_of (kept_in d))) d.publics.items) m.publics
  pub contents : (piece offset : ℕ) →
      content_at m.contents piece offset ≡ byte_at (slice_get (pieces_in d) piece) offset
  pub fixups : (piece offset : ℕ) →
      fixup_at m.fixups piece offset ≡ relocated_at (number_of (kept_in d)) piece (slice_get (pieces_in d) piece) offset
  pub lines : m.lines ≡ Some (entries_from 0 (pieces_in d))
