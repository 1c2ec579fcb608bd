-- The map of modules that are linked (after the segment table of RL96 of the MCS-96 utilities, in outline; the lines are this
-- kit's own).
use Rattle.std.specs.Prelude.{◌≡◌, ℕ, ◌+◌, ◌-◌, ◌%◌, Result, Ok, Err, Option, Some, None, List, [], ◌∷◌, ◌++◌, codes, decimal, flat_map}
use Rattle.std.specs.Global.{Vec}
use Rattle.kc_obj_module.specs.declared.parts.SegKind.{SegKind}
use Rattle.kc_obj_module.specs.declared.parts.SegKind.TheVariants as kind
use Rattle.kc_obj_module.specs.declared.parts.Segment.{Segment}
use Rattle.kc_obj_module.specs.declared.parts.Given.{Given}
use Rattle.kc_obj_module.specs.Object.{Object}
use Rattle.kc_base.specs.Digits.{hex}
use Rattle.kc_link_place.specs.declared.ranges.Ranges.{Ranges}
use Rattle.kc_link_place.specs.declared.ranges.LinkFault.{LinkFault}
use Rattle.kc_link_place.specs.Names.{defining}
use Rattle.kc_link_place.specs.Placing.{Places, located, base_at, defining_number, stack_size, IsCause}
use Rattle.kc_link.specs.Free.{Run, free_runs, is_free}

abbrev pub kind_word : SegKind → List ℕ
kind_word kind.Reg = codes "reg"
kind_word kind.Code = codes "code"
kind_word kind.Ram = codes "data"
kind_word kind.Stack = codes "stack"

-- ---- pieces: kind, address, length and module

abbrev pub piece_line : List ℕ → SegKind → ℕ → ℕ → List ℕ
piece_line name kind at length = codes "piece " ++ kind_word kind ++ codes " " ++ hex 4 at ++ codes " " ++ decimal length ++ codes " " ++ name ++ codes "\n"

unfoldable pub piece_lines : Places → ℕ → List ℕ → ℕ → List Segment → List ℕ
piece_lines places index name number [] = []
piece_lines places index name number (s ∷ ss) = piece_line name s.kind (base_at places.pieces index number) s.length ++ piece_lines places index name (number + 1) ss

unfoldable pub all_piece_lines : Places → ℕ → List Object → List ℕ
all_piece_lines places index [] = []
all_piece_lines places index (m ∷ ms) = piece_lines places index m.name 0 m.segments ++ all_piece_lines places (index + 1) ms

-- ---- public names: an address, or a number alone

abbrev pub public_word : Option ℕ → List ℕ
public_word (Some piece) = codes "public "
public_word None = codes "number "

abbrev pub public_line : Places → ℕ → List ℕ → Given → List ℕ
public_line places index name g = public_word g.piece ++ hex 4 (defining_number places.pieces (Some (defining index g))) ++ codes " " ++ g.name ++ codes " " ++ name ++ codes "\n"

unfoldable pub public_lines : Places → ℕ → List ℕ → List Given → List ℕ
public_lines places index name [] = []
public_lines places index name (g ∷ gs) = public_line places index name g ++ public_lines places index name gs

unfoldable pub all_public_lines : Places → ℕ → List Object → List ℕ
all_public_lines places index [] = []
all_public_lines places index (m ∷ ms) = public_lines places index m.name m.publics ++ all_public_lines places (index + 1) ms

-- ---- the stack

-- the first address of a stack of so many bytes
abbrev pub stack_first : Places → ℕ → ℕ
stack_first places size = (places.after_stack + 65536 - size % 65536) % 65536

abbrev pub stack_line : ℕ → ℕ → List ℕ
stack_line first size = codes "stack " ++ hex 4 first ++ codes " " ++ decimal size ++ codes "\n"

-- ---- what is free in each range

abbrev pub free_line : List ℕ → Run → List ℕ
free_line word run = codes "free " ++ word ++ codes " " ++ hex 4 run.first ++ codes " " ++ decimal run.length ++ codes "\n"

abbrev pub free_lines : List ℕ → List Run → List ℕ
free_lines word runs = flat_map (free_line word) runs

abbrev pub range_text : List Object → Places → ℕ → ℕ → List ℕ → ℕ × ℕ → List ℕ
range_text ms places stack size word range = free_lines word (free_runs (is_free ms places stack size) (range.1 + 1 - range.0) range.0 0)

abbrev pub ranges_text : List Object → Ranges → Places → ℕ → ℕ → List ℕ
ranges_text ms ranges places stack size =
    range_text ms places stack size (kind_word kind.Reg) ranges.reg ++ range_text ms places stack size (kind_word kind.Code) ranges.code
    ++ range_text ms places stack size (kind_word kind.Ram) ranges.ram

-- ---- the whole map

abbrev pub map_with : List Object → Ranges → Places → ℕ → ℕ → List ℕ
map_with ms ranges places stack size = all_piece_lines places 0 ms ++ all_public_lines places 0 ms ++ stack_line stack size ++ ranges_text ms ranges places stack size

abbrev pub map_text : List Object → Ranges → Places → List ℕ
map_text ms ranges places = map_with ms ranges places (stack_first places (stack_size ranges ms)) (stack_size ranges ms)

-- the map at the places of all pieces, or the first broken rule
abbrev pub IsMap : List Object → Ranges → Result (Vec ℕ) LinkFault → Type 0
IsMap ms ranges (Ok text) = (places : Places) × (located ms ranges ≡ Ok places) × (text.items ≡ map_text ms ranges places)
IsMap ms ranges (Err fault) = IsCause fault (located ms ranges ≡ Err fault)
