-- Pieces of a module with what stands in them, one after the other.
use Rattle.std.specs.Prelude.{◌≡◌, ℕ, true, ◌+◌, ◌<◌, ◌≤◌, List, [], ◌∷◌, ◌++◌, map, length}
use Rattle.std.specs.List.{list_all}
use Rattle.kc_obj_module.specs.declared.parts.Segment.{Segment}
use Rattle.kc_obj_module.specs.declared.parts.Lines.{Lines}
use Rattle.kc_asm_section.specs.Section.{Section}
use Rattle.kc_asm_section.specs.declared.puts.Put.{Put}
use Rattle.kc_asm_section.specs.Order.{start_of, segment_of}
use Rattle.kc_asm_section.specs.Puts.{put_of, entry_of, has_start}

pub record ModuleContents : Type 0 where
  pub segments : List Segment
  pub puts : List Put
  pub entries : List Lines

abbrev pub module_contents_of : List Segment → List Put → List Lines → ModuleContents
module_contents_of segments puts entries = record { segments = segments; puts = puts; entries = entries }

abbrev pub empty : ModuleContents
empty = module_contents_of [] [] []

abbrev pub added : (ℕ → ℕ) → Section → ModuleContents → ModuleContents
added number t s =
    module_contents_of (s.segments ++ segment_of t ∷ [])
    (s.puts ++ map (put_of number (length s.segments) t) t.placed_bytes)
    (s.entries ++ map (entry_of (length s.segments)) t.marks)

unfoldable pub added_all : (ℕ → ℕ) → List Section → ModuleContents → ModuleContents
added_all number [] s = s
added_all number (t ∷ ts) s = added_all number ts (added number t s)

-- a part that can be a piece
pub record IsAddable (t : Section) : Type 0 where
  pub short : t.length < 65536
  pub fits : start_of t.at + t.length ≤ 65536
  pub starts : list_all (λ c. has_start c.relocatable_byte) t.placed_bytes ≡ true

unfoldable pub AreAddable : List Section → Type 0
AreAddable [] = Unit {0}
AreAddable (t ∷ ts) = IsAddable t × AreAddable ts
