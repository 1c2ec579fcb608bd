-- An image that is checked by decoding: at the place of each statement of each source stands what the statement says, and FFH
-- where no statement stands.
use Rattle.std.specs.Prelude.{◌≡◌, ℕ, true, ◌+◌, ◌-◌, ◌<◌, ◌≤◌, if◌then◌else◌, Some, None, Ok, List, [], ◌∷◌, ◌++◌, length, reverse, drop, slice_get}
use Rattle.std.specs.List.{list_all}
use Rattle.kc_base.specs.Limits.{image_start}
use Rattle.kc_isa.specs.declared.insn.Insn.{Insn}
use Rattle.kc_isa.specs.Formed.{length_of}
use Rattle.kc_code.specs.declared.reader.Decoded.TheVariants as says
use Rattle.kc_code.specs.Reading.{decode_of}
use Rattle.kc_base.specs.Bytes.{IsBytes}
use Rattle.kc_lex.specs.declared.token.Line.{Line}
use Rattle.kc_source_statement.specs.declared.statement.Stmt.{Stmt}
use Rattle.kc_source.specs.Faults.{AreStatements}
use Rattle.kc_asm_symbols.specs.declared.segments.Segment.{Segment}
use Rattle.kc_asm_symbols.specs.Located.{Located, is_absolute}
use Rattle.kc_asm_symbols.specs.Meanings.{meaning}
use Rattle.kc_asm_symbols.specs.Reported.{AreReadWell}
use Rattle.kc_obj_module.specs.Object.{Object}
use Rattle.kc_obj_module.specs.Numbers.{Bases}
use Rattle.kc_asm_section.specs.declared.unlinked.UnlinkedModule.{UnlinkedModule}
use Rattle.kc_asm_section.specs.ModuleOf.{IsModuleOf, pieces_in}
use Rattle.kc_link_place.specs.declared.ranges.Ranges.{Ranges}
use Rattle.kc_link_place.specs.Placing.{Places, bases_of}
use Rattle.kc_link.specs.Placed.{placed}
use Rattle.kc_link.specs.Filled.{IsFilled}
use Rattle.kc_asm_unlinked_laws.specs.Parts.{start, part_bases}
use Rattle.kc_asm_emit.specs.Content.{Content, Nothing, RelocatableBytes, Reserved, Upto, Even, content}
use Rattle.kc_asm_layout.specs.declared.location.Location.{Location}
use Rattle.kc_asm_check.specs.Checking.{first_fault, location_list, standing}
use Rattle.kc_asm_unlinked_laws.specs.Collecting.{IsUnlinkedModuleOf}
use Rattle.kc_asm.specs.Saying.{data_of, code_of}
use Rattle.kc_asm.specs.Characters.{has_bytes}

-- ---- a source without a fault, with its unlinked module and its module

pub record IsSource (stmts : List Stmt) (d : UnlinkedModule) (m : Object) : Type 0 where
  -- what its lines say, where no line has a fault and characters are bytes
  pub lines : List Line
  pub read : AreStatements stmts lines
  pub characters : list_all has_bytes stmts ≡ true
  -- where an object can report each of them, and bytes stand in code
  pub well : AreReadWell stmts
  -- where no value and no place has a fault
  pub sound : first_fault stmts ≡ None
  pub collected : IsUnlinkedModuleOf stmts d
  -- an object has at most 65,536 pieces
  pub few : length (pieces_in d) ≤ 65536
  pub made : IsModuleOf d m

-- ---- places

-- where a statement stands: in an absolute piece its place is its address
abbrev pub address_of : Bases → UnlinkedModule → Segment → Location → ℕ
address_of bases d g s = if is_absolute g then s.place else start bases d g.piece + s.place

-- a statement of a source, those before it the latest first, and its location
pub record IsStatement (stmts : List Stmt) (before : List Located) (l : Located) (s : Location) : Type 0 where
  pub after : List Located
  pub split : standing stmts ≡ reverse before ++ l ∷ after
  pub location : slice_get (location_list stmts) (length before) ≡ Some s

-- ---- what stands

-- instructions, one after the other at consecutive lengths, from a place of the image on
abbrev pub Decodes : List ℕ → ℕ → List Insn → Type 0
Decodes image place [] = Unit {0}
Decodes image place (i ∷ is) = (decode_of (drop place image) ≡ says.Insn i (length_of i)) × Decodes image (place + length_of i) is

-- bytes, from a place of the image on
abbrev pub Reads : List ℕ → ℕ → List ℕ → Type 0
Reads image place [] = Unit {0}
Reads image place (b ∷ bs) = (slice_get image place ≡ Some b) × Reads image (place + 1) bs

-- how many bytes a statement has
abbrev pub size_of : Content → ℕ
size_of (RelocatableBytes os) = length os
size_of Nothing = 0
size_of (Reserved n) = 0
size_of (Upto place) = 0
size_of Even = 0

abbrev pub bytes_at : List Stmt → List Located → Located → Location → ℕ
bytes_at stmts before l s = size_of (content (meaning (standing stmts) before l) s.form l.here l.action)

-- what a statement says stands at its address, in program memory
pub record Stands (image : List ℕ) (bases : Bases) (stmts : List Stmt) (d : UnlinkedModule) (before : List Located) (l : Located) (s : Location) : Type 0 where
  pub within : 0 < bytes_at stmts before l s → image_start ≤ address_of bases d l.segment s
  pub code : Decodes image (address_of bases d l.segment s - image_start)
      (code_of (part_bases bases d) (address_of bases d l.segment s) (meaning (standing stmts) before l) s.form l l.action)
  pub bytes : Reads image (address_of bases d l.segment s - image_start) (data_of (part_bases bases d) (meaning (standing stmts) before l) l.action)

-- ---- all sources

-- their modules, in order
pub record AreSources (sources : List (List Stmt)) (unlinked_modules : List UnlinkedModule) (modules : List Object) : Type 0 where
  pub unlinked_modules_count : length sources ≡ length unlinked_modules
  pub modules_count : length sources ≡ length modules
  pub of : (i : ℕ) (stmts : List Stmt) (d : UnlinkedModule) (m : Object) →
      slice_get sources i ≡ Some stmts → slice_get unlinked_modules i ≡ Some d → slice_get modules i ≡ Some m → IsSource stmts d m

-- a byte of a statement has a place of the image
pub record Covers (sources : List (List Stmt)) (unlinked_modules : List UnlinkedModule) (modules : List Object) (places : Places) (place : ℕ) : Type 0 where
  pub index : ℕ
  pub stmts : List Stmt
  pub source : slice_get sources index ≡ Some stmts
  pub d : UnlinkedModule
  pub unlinked : slice_get unlinked_modules index ≡ Some d
  pub m : Object
  pub its_module : slice_get modules index ≡ Some m
  pub before : List Located
  pub l : Located
  pub s : Location
  pub statement : IsStatement stmts before l s
  pub byte : ℕ
  pub below : byte < bytes_at stmts before l s
  pub at : address_of (bases_of modules places index m) d l.segment s + byte ≡ image_start + place

pub record IsLinked (sources : List (List Stmt)) (unlinked_modules : List UnlinkedModule) (modules : List Object) (places : Places) (image : List ℕ) : Type 0 where
  pub long : length image ≡ 0xE000
  pub stands : (i : ℕ) (stmts : List Stmt) (d : UnlinkedModule) (m : Object) (before : List Located) (l : Located) (s : Location) →
      slice_get sources i ≡ Some stmts → slice_get unlinked_modules i ≡ Some d → slice_get modules i ≡ Some m → IsStatement stmts before l s
      → Stands image (bases_of modules places i m) stmts d before l s
  pub blank : (place : ℕ) → place < 0xE000 → (Covers sources unlinked_modules modules places place → ⊥) → slice_get image place ≡ Some 255

-- ---- an image of sources and ranges

-- the modules of the sources can be placed in the ranges, and the image is linked there
pub record IsImageOf (sources : List (List Stmt)) (ranges : Ranges) (image : List ℕ) : Type 0 where
  pub unlinked_modules : List UnlinkedModule
  pub modules : List Object
  pub are : AreSources sources unlinked_modules modules
  pub places : Places
  pub placed : placed modules ranges ≡ Ok places
  pub linked : IsLinked sources unlinked_modules modules places image

-- ---- laws

-- the image that is filled from the modules of sources is linked
abbrev pub LinkedImage : Type 0
LinkedImage =
    (sources : List (List Stmt)) (unlinked_modules : List UnlinkedModule) (modules : List Object) (ranges : Ranges) (places : Places) (image : List ℕ)
    → AreSources sources unlinked_modules modules → placed modules ranges ≡ Ok places → IsFilled modules places image
    → IsLinked sources unlinked_modules modules places image

-- no other one is
abbrev pub OneImage : Type 0
OneImage =
    (sources : List (List Stmt)) (unlinked_modules : List UnlinkedModule) (modules : List Object) (places : Places) (image other : List ℕ)
    → IsBytes image → IsBytes other
    → IsLinked sources unlinked_modules modules places image → IsLinked sources unlinked_modules modules places other → image ≡ other

-- sources have at most one image in the ranges
abbrev pub OneImageOfSources : Type 0
OneImageOfSources =
    (sources : List (List Stmt)) (ranges : Ranges) (image other : List ℕ)
    → IsBytes image → IsBytes other
    → IsImageOf sources ranges image → IsImageOf sources ranges other → image ≡ other

-- each statement has a location
abbrev pub StatementsHaveLocations : Type 0
StatementsHaveLocations =
    (stmts : List Stmt) (before after : List Located) (l : Located) → standing stmts ≡ reverse before ++ l ∷ after
    → (s : Location) × IsStatement stmts before l s
