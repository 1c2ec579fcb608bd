-- Where in the file bytes of pieces stand, as a table that is filled run by run (this kit's own).
use Rattle.std.specs.Prelude.{◌≡◌, ℕ, Bool, ◌+◌, ◌-◌, ◌==◌, ◌&&◌, ◌||◌, nat_lt, nat_le, if◌then◌else◌, Option, Some, None, List, length}
use Rattle.std.specs.HashMap.{HashMap, get}
use Rattle.std.specs.HashSet.{HashSet, contains}
use Rattle.kc_obj_module.specs.declared.parts.Content.{Content}
use Rattle.kc_obj_module.specs.declared.parts.Fixup.{Fixup}
use Rattle.kc_obj_module.specs.Fixups.{fills}
use Rattle.kc_obj_fields.specs.Records.{place_of, is_under}

-- a byte by the number of its piece and its offset
abbrev pub same_place : ℕ × ℕ → ℕ × ℕ → Bool
same_place a b = (a.0 == b.0) && (a.1 == b.1)

abbrev pub or_else : Option ℕ → Option ℕ → Option ℕ
or_else None y = y
or_else (Some x) y = Some x

-- where a byte stands, if it is one of a run
abbrev pub place_in_run : ℕ → ℕ → ℕ → ℕ → ℕ → ℕ → Option ℕ
place_in_run piece offset start count p o =
    if (piece == p) && nat_le offset o && nat_lt o (offset + count) then Some (start + (o - offset)) else None

-- the places of a run were put, of those bytes that had none
abbrev pub PutsRun : {S : Type 0} → HashMap (ℕ × ℕ) ℕ S → HashMap (ℕ × ℕ) ℕ S → ℕ → ℕ → ℕ → ℕ → Type 0
PutsRun old new piece offset start count =
    (p o : ℕ) → get same_place new (p, o) ≡ or_else (get same_place old (p, o)) (place_in_run piece offset start count p o)

-- runs that were read, and where in the file the bytes of each begin
pub record Laid : Type 0 where
  pub contents : List Content
  pub starts : List ℕ

abbrev pub laid : List Content → List ℕ → Laid
laid contents starts = record { contents = contents; starts = starts }

-- the table has the place of each byte
abbrev pub HasPlaces : {S : Type 0} → HashMap (ℕ × ℕ) ℕ S → List Content → List ℕ → Type 0
HasPlaces places contents starts = (p o : ℕ) → get same_place places (p, o) ≡ place_of contents starts p o

pub record IsTable {S : Type 0} (places : HashMap (ℕ × ℕ) ℕ S) (contents : List Content) (starts : List ℕ) : Type 0 where
  pub counted : length contents ≡ length starts
  pub has : HasPlaces places contents starts

-- ---- bytes under relocations

-- one more byte is in the set
abbrev pub Covers : {S : Type 0} → HashSet (ℕ × ℕ) S → HashSet (ℕ × ℕ) S → ℕ → ℕ → Type 0
Covers old new piece offset = (p o : ℕ) → contains same_place new (p, o) ≡ (contains same_place old (p, o) || ((piece == p) && (offset == o)))

-- the bytes under one more relocation are in the set
abbrev pub CoversNumber : {S : Type 0} → HashSet (ℕ × ℕ) S → HashSet (ℕ × ℕ) S → Fixup → Type 0
CoversNumber old new x = (p o : ℕ) → contains same_place new (p, o) ≡ (contains same_place old (p, o) || fills p o x)

-- the set has the bytes under all relocations
abbrev pub HasCovered : {S : Type 0} → HashSet (ℕ × ℕ) S → List Fixup → Type 0
HasCovered under fixups = (p o : ℕ) → contains same_place under (p, o) ≡ is_under fixups p o
