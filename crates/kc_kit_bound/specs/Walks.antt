-- A walk through a routine, as it is printed (this kit's own).
use Rattle.std.specs.Prelude.{◌≡◌, ◌⊎◌, ℕ, Option, Some, None, List, [], ◌++◌, codes, decimal, flat_map}
use Rattle.kc_bound.specs.declared.notes.Notes.{Notes}
use Rattle.kc_bound_walk.specs.declared.lines.Spent.{Spent}
use Rattle.kc_bound_walk.specs.Walks.{IsWhole}
use Rattle.kc_debug_script.specs.declared.line_map.MapEntry.{MapEntry}
use Rattle.kc_debug_script.specs.LineMap.{entry_at}
use Rattle.kc_kit_bound.specs.Texts.{at_text}

-- from which line of which module
abbrev pub source_text : Option MapEntry → List ℕ
source_text None = []
source_text (Some e) = codes " " ++ e.name ++ codes ":" ++ decimal e.line

abbrev pub walk_line : List MapEntry → Spent → List ℕ
walk_line lines s = codes "walk" ++ at_text s.at ++ codes " " ++ decimal s.states ++ codes " x " ++ decimal s.times ++ source_text (entry_at lines s.at) ++ codes "\n"

-- the text of a walk, with a line for each address and number of states
pub record IsWalkPrinted (image : List ℕ) (notes : Notes) (from : ℕ) (lines : List MapEntry) (text : List ℕ) : Type 0 where
  pub spent : List Spent
  pub whole : IsWhole image notes from spent
  pub printed : text ≡ flat_map (walk_line lines) spent

-- where none is found
abbrev pub no_walk : ℕ → List ℕ
no_walk from = codes "walk" ++ at_text from ++ codes " none\n"

-- a walk with what it spends, or that none is found
abbrev pub IsWalkText : List ℕ → Notes → ℕ → List MapEntry → List ℕ → Type 0
IsWalkText image notes from lines text = IsWalkPrinted image notes from lines text ⊎ (text ≡ no_walk from)
