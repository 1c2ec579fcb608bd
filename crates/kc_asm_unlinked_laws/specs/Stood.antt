-- What stands in the unlinked module of a source without a fault: the relocatable bytes of each statement, each at its place, and FFH where code
-- leads on to another place (after the MCS-96 Macro Assembler User's Guide, "Segments and the Location Counter").
use Rattle.std.specs.Prelude.{◌≡◌, ◌⊎◌, ℕ, ◌+◌, ◌-◌, ◌≤◌, List, ◌∷◌, ◌++◌, reverse, length, Some, None, slice_get}
use Rattle.kc_source_statement.specs.declared.statement.Stmt.{Stmt}
use Rattle.kc_asm_symbols.specs.Located.{Located}
use Rattle.kc_asm_symbols.specs.Meanings.{meaning}
use Rattle.kc_asm_encode.specs.declared.relocatable_byte.RelocatableByte.{RelocatableByte}
use Rattle.kc_asm_encode.specs.declared.relocatable_byte.RelocatableByte.TheVariants.{Plain}
use Rattle.kc_asm_section.specs.declared.unlinked.UnlinkedModule.{UnlinkedModule}
use Rattle.kc_asm_section.specs.Section.{Section, relocatable_byte_at}
use Rattle.kc_asm_section.specs.Order.{start_of}
use Rattle.kc_asm_emit.specs.Content.{RelocatableBytes, content}
use Rattle.kc_asm_layout.specs.declared.location.Location.{Location}
use Rattle.kc_asm_check.specs.Checking.{first_fault, location_list, standing}
use Rattle.kc_asm_unlinked_laws.specs.Collecting.{IsUnlinkedModuleOf}

-- a statement with relocatable bytes, those before it the latest first, and its location
pub record HasRelocatableBytes (all : List Located) (ss : List Location) (before : List Located) (l : Located) (s : Location) (os : List RelocatableByte) : Type 0 where
  pub after : List Located
  pub split : all ≡ reverse before ++ l ∷ after
  pub location : slice_get ss (length before) ≡ Some s
  pub relocatable_bytes : content (meaning all before l) s.form l.here l.action ≡ RelocatableBytes os

-- relocatable bytes stand one after the other in a part, from a place on
pub record StandAt (parts : List Section) (part place : ℕ) (os : List RelocatableByte) : Type 0 where
  pub t : Section
  pub is_part : slice_get parts part ≡ Some t
  pub begins : start_of t.at ≤ place
  pub stand : (k : ℕ) (o : RelocatableByte) → slice_get os k ≡ Some o → relocatable_byte_at t ((place - start_of t.at) + k) ≡ Some o

abbrev pub StatementsStand : Type 0
StatementsStand =
    (stmts : List Stmt) (d : UnlinkedModule) → first_fault stmts ≡ None → IsUnlinkedModuleOf stmts d
    → (before : List Located) (l : Located) (s : Location) (os : List RelocatableByte) → HasRelocatableBytes (standing stmts) (location_list stmts) before l s os
    → StandAt d.parts.items l.segment.piece s.place os

-- a relocatable byte of a statement, at a place of a part
pub record IsOfStatement (all : List Located) (ss : List Location) (part place : ℕ) (o : RelocatableByte) : Type 0 where
  pub before : List Located
  pub l : Located
  pub s : Location
  pub os : List RelocatableByte
  pub statement : HasRelocatableBytes all ss before l s os
  pub its_part : l.segment.piece ≡ part
  pub index : ℕ
  pub relocatable_byte : slice_get os index ≡ Some o
  pub its_place : s.place + index ≡ place

abbrev pub NothingElseStands : Type 0
NothingElseStands =
    (stmts : List Stmt) (d : UnlinkedModule) → first_fault stmts ≡ None → IsUnlinkedModuleOf stmts d
    → (part offset : ℕ) (t : Section) (o : RelocatableByte) → slice_get d.parts.items part ≡ Some t → relocatable_byte_at t offset ≡ Some o
    → (o ≡ Plain 255) ⊎ IsOfStatement (standing stmts) (location_list stmts) part (start_of t.at + offset) o
