-- The line map: from which line of which module the bytes at an address come (this kit's own).
use Rattle.std.specs.Prelude.{◌≡◌, ℕ, ◌+◌, ◌<◌, Option, Some, None, Result, Ok, Err, List, [], ◌∷◌, ◌++◌, map}
use Rattle.std.specs.List.Sorted.{IsPermutation}
use Rattle.std.specs.Global.{Vec}
use Rattle.kc_obj_module.specs.declared.parts.Lines.{Lines}
use Rattle.kc_obj_module.specs.Object.{Object}
use Rattle.kc_obj_module.specs.Numbers.{Bases}
use Rattle.kc_link_place.specs.BaseLists.{BaseLists, bases_in}
use Rattle.kc_link_place.specs.declared.ranges.Ranges.{Ranges}
use Rattle.kc_link_place.specs.declared.ranges.LinkFault.{LinkFault}
use Rattle.kc_link_place.specs.Placing.{Places, bases_of, IsCause}
use Rattle.kc_link.specs.declared.lines.LineAt.{LineAt}
use Rattle.kc_link.specs.Placed.{placed}

abbrev pub line_at : Bases → List ℕ → Lines → LineAt
line_at b name l = record { addr = b.piece l.piece + l.offset; name = name; line = l.line }

-- a module of version 1 has no line entries
abbrev pub lines_in : Bases → List ℕ → Option (List Lines) → List LineAt
lines_in b name None = []
lines_in b name (Some lines) = map (line_at b name) lines

-- the line entries of all modules, at their addresses
unfoldable pub lines_of : List Object → Places → ℕ → List Object → List LineAt
lines_of all places index [] = []
lines_of all places index (m ∷ ms) = lines_in (bases_of all places index m) m.name m.lines ++ lines_of all places (index + 1) ms

-- each address is above the one before
abbrev pub Rises : List LineAt → Type 0
Rises [] = Unit {0}
Rises (l ∷ []) = Unit {0}
Rises (l ∷ k ∷ ls) = (l.addr < k.addr) × Rises (k ∷ ls)

-- the line entries by rising address
pub record IsLineMap (modules : List Object) (places : Places) (entries : List LineAt) : Type 0 where
  pub same : IsPermutation (lines_of modules places 0 modules) entries
  pub rises : Rises entries

-- what the line map answers: its entries at the places, or the first broken rule
abbrev pub IsLines : List Object → Ranges → Result (Vec LineAt) LinkFault → Type 0
IsLines ms ranges (Ok entries) = (places : Places) × ((placed ms ranges ≡ Ok places) × IsLineMap ms places entries.items)
IsLines ms ranges (Err fault) = IsCause fault (placed ms ranges ≡ Err fault)

-- the same by the bases of each module
unfoldable pub lines_by : List Object → List BaseLists → List LineAt
lines_by [] bs = []
lines_by (m ∷ ms) [] = []
lines_by (m ∷ ms) (b ∷ bs) = lines_in (bases_in b) m.name m.lines ++ lines_by ms bs

-- the addresses of line entries are addresses
abbrev pub LinesStand : Bases → List Lines → Type 0
LinesStand b [] = Unit {0}
LinesStand b (l ∷ ls) = (b.piece l.piece + l.offset < 65536) × LinesStand b ls

abbrev pub MaybeLinesStand : Bases → Option (List Lines) → Type 0
MaybeLinesStand b None = Unit {0}
MaybeLinesStand b (Some lines) = LinesStand b lines

abbrev pub AllLinesStand : List Object → List BaseLists → Type 0
AllLinesStand [] bs = Unit {0}
AllLinesStand (m ∷ ms) [] = Unit {0}
AllLinesStand (m ∷ ms) (b ∷ bs) = MaybeLinesStand (bases_in b) m.lines × AllLinesStand ms bs
