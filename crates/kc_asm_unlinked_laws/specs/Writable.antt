-- Where a source has no fault, what its statements write has room in its pieces.
use Rattle.std.specs.Prelude.{◌≡◌, ℕ, ◌+◌, ◌-◌, ◌%◌, ◌≤◌, List, [], ◌∷◌, length, Some, None, slice_get}
use Rattle.kc_source_statement.specs.declared.statement.Stmt.{Stmt}
use Rattle.kc_asm_symbols.specs.Located.{Located}
use Rattle.kc_asm_symbols.specs.Meanings.{meaning}
use Rattle.kc_asm_section.specs.Section.{Section}
use Rattle.kc_asm_emit.specs.Content.{Content, Nothing, RelocatableBytes, Reserved, Upto, Even}
use Rattle.kc_asm_layout.specs.declared.location.Location.{Location}
use Rattle.kc_asm_check.specs.Checking.{first_fault, location_list, standing}
use Rattle.kc_asm_check.specs.Putting.{Put, put_of}
use Rattle.kc_asm_unlinked_laws.specs.Collecting.{parts_after, first_parts}

-- so many bytes, behind a number of others, have room
abbrev pub HasRoom : ℕ → Content → ℕ → Type 0
HasRoom size Nothing place = Unit {0}
HasRoom size (RelocatableBytes os) place = size + length os ≤ 65536
HasRoom size (Reserved n) place = size + n ≤ 65536
HasRoom size (Upto to) place = (place ≤ to) × (size + (to - place) ≤ 65536)
HasRoom size Even place = size + place % 2 ≤ 65536

-- what a statement puts behind a piece of its kind has room there
pub record IsWritable (p : Put) (l : Located) (s : Location) (parts : List Section) : Type 0 where
  pub t : Section
  pub part : slice_get parts l.segment.piece ≡ Some t
  pub kind : t.kind ≡ l.segment.kind
  pub forward : s.before ≤ s.place
  pub gap : t.length + (s.place - s.before) ≤ 65536
  pub room : HasRoom (t.length + (s.place - s.before)) p.content s.place

abbrev pub AllWritable : List Located → List Located → List Located → List Location → List Section → Type 0
AllWritable all before [] ss parts = Unit {0}
AllWritable all before (l ∷ ls) [] parts = ⊥
AllWritable all before (l ∷ ls) (s ∷ ss) parts =
    IsWritable (put_of (meaning all before l) l s) l s parts × AllWritable all (l ∷ before) ls ss (parts_after (meaning all before l) l s parts)

abbrev pub PartsAreWritable : Type 0
PartsAreWritable =
    (stmts : List Stmt) → first_fault stmts ≡ None
    → AllWritable (standing stmts) [] (standing stmts) (location_list stmts) first_parts
