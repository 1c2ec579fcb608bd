-- What is said in words of broken rules of the linker (this kit's own).
use Rattle.std.specs.Prelude.{ℕ, ◌+◌, ◌==◌, Bool, false, ◌&&◌, nat_le, nat_lt, List, [], ◌∷◌, ◌++◌, codes, decimal, fold, Option, Some, None, slice_get, if◌then◌else◌}
use Rattle.std.specs.List.{list_any}
use Rattle.kc_obj_module.specs.declared.parts.Lines.{Lines}
use Rattle.kc_obj_module.specs.declared.parts.Segment.{Segment}
use Rattle.kc_obj_module.specs.Object.{Object}
use Rattle.kc_lib.specs.Names.{takes, gives}
use Rattle.kc_link_place.specs.declared.ranges.LinkFault.{LinkFault}
use Rattle.kc_link_place.specs.declared.ranges.LinkFault.TheVariants as fault
use Rattle.kc_link.specs.Map.{kind_word}
use Rattle.kc_base.specs.Digits.{hex}
use Rattle.kc_kit_files.specs.Shown.{shown}
use Rattle.kc_kit_messages.specs.Diagnostics.{number_text, error_text}
use Rattle.kc_kit_messages.specs.Rules.{file_at}

-- ---- from which line of its source the bytes at an offset of a piece come: that of the greatest entry of the piece at or below it.
-- ---- Entries stand by rising place, so it is the last of these.

abbrev pub or_later : ℕ → ℕ → Option ℕ → Lines → Option ℕ
or_later piece offset found entry = if (entry.piece == piece) && nat_le entry.offset offset then Some entry.line else found

abbrev pub line_among : ℕ → ℕ → Option (List Lines) → Option ℕ
line_among piece offset (Some entries) = fold (or_later piece offset) None entries
line_among piece offset None = None

-- in one of these modules
abbrev pub line_in : ℕ → ℕ → Option Object → Option ℕ
line_in piece offset (Some m) = line_among piece offset m.lines
line_in piece offset None = None

-- behind the name of a file
abbrev pub line_text : Option ℕ → List ℕ
line_text (Some line) = number_text line
line_text None = []

-- ---- the modules that a rule is about: those that take the name, that give it, or that have the address in an absolute piece

abbrev pub stands_at : ℕ → Segment → Bool
stands_at place piece = elim piece.at [ None ↦ false | Some at ↦ nat_le at place && nat_lt place (at + piece.length) ]

abbrev pub concerns : LinkFault → Object → Bool
concerns (fault.Unresolved name) m = takes name m
concerns (fault.OverlapName name) m = gives name m
concerns (fault.OverlapPlace place) m = list_any (stands_at place) m.segments
concerns _ m = false

-- their files, each behind a space; the first module has this number
abbrev pub files_from : List (List ℕ) → LinkFault → ℕ → List Object → List ℕ
files_from names fault number [] = []
files_from names fault number (m ∷ ms) = (if concerns fault m then codes " " ++ file_at names number else []) ++ files_from names fault (number + 1) ms

abbrev pub in_files : List (List ℕ) → LinkFault → List Object → List ℕ
in_files names fault ms = codes " in" ++ files_from names fault 0 ms

-- ---- diagnostics

abbrev pub rule_diagnostic : List ℕ → List ℕ → List ℕ → List ℕ
rule_diagnostic place rule more = shown place ++ error_text rule (codes " " ++ shown more)

abbrev pub link_diagnostic : List (List ℕ) → List Object → LinkFault → List ℕ
link_diagnostic names ms (fault.Unresolved name) = rule_diagnostic (codes "kc96") (codes "unresolved") (name ++ in_files names (fault.Unresolved name) ms)
link_diagnostic names ms (fault.OverlapName name) = rule_diagnostic (codes "kc96") (codes "duplicate") (name ++ in_files names (fault.OverlapName name) ms)
link_diagnostic names ms (fault.OverlapPlace place) = rule_diagnostic (codes "kc96") (codes "overlap") (hex 4 place ++ in_files names (fault.OverlapPlace place) ms)
link_diagnostic names ms (fault.Capacity kind index) = rule_diagnostic (file_at names index) (codes "capacity") (kind_word kind)
link_diagnostic names ms (fault.Range index piece offset) =
    rule_diagnostic (file_at names index ++ line_text (line_in piece offset (slice_get ms index))) (codes "range") (decimal piece ++ codes " " ++ decimal offset)
link_diagnostic names ms fault.NoMemory = []
