-- The lines of broken rules of the linker, with the words that name files of modules (this kit's own).
use Rattle.std.specs.Prelude.{ℕ, List, [], ◌++◌, codes, decimal, map, Some, None, slice_get}
use Rattle.kc_obj_module.specs.Object.{Object}
use Rattle.kc_link_place.specs.declared.ranges.LinkFault.{LinkFault}
use Rattle.kc_link_place.specs.declared.ranges.LinkFault.TheVariants as fault
use Rattle.kc_link.specs.Map.{kind_word}
use Rattle.kc_base.specs.Digits.{hex}

-- the word that names a module's file; that of the one stack of all modules is `-`
abbrev pub file_at : List (List ℕ) → ℕ → List ℕ
file_at names index = elim (slice_get names index) [ None ↦ codes "-" | Some name ↦ name ]

-- the words that name members of a library: its own, a colon, and that of the module
abbrev pub member_words : List ℕ → List Object → List (List ℕ)
member_words library members = map (λ m. library ++ codes ":" ++ m.name) members

abbrev pub link_text : List (List ℕ) → LinkFault → List ℕ
link_text names (fault.Unresolved name) = codes "unresolved " ++ name
link_text names (fault.OverlapName name) = codes "duplicate " ++ name
link_text names (fault.OverlapPlace place) = codes "overlap " ++ hex 4 place
link_text names (fault.Capacity kind index) = codes "capacity " ++ kind_word kind ++ codes " " ++ file_at names index
link_text names (fault.Range index piece offset) = codes "range " ++ file_at names index ++ codes " " ++ decimal piece ++ codes " " ++ decimal offset
link_text names fault.NoMemory = []

abbrev pub link_line : List (List ℕ) → LinkFault → List ℕ
link_line names fault = codes "link " ++ link_text names fault ++ codes "\n"
