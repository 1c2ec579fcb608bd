-- Pieces that stand at addresses, and the least address that they leave free (after RL96 of the MCS-96 utilities, in outline).
use Rattle.std.specs.Prelude.{ℕ, zero, suc, Bool, true, false, ◌+◌, ◌-◌, ◌%◌, ◌==◌, ◌&&◌, ◌||◌, not, nat_lt, nat_le, if◌then◌else◌, Option, Some, None, List, [], ◌∷◌, ◌++◌}
use Rattle.kc_obj_module.specs.declared.parts.SegKind.{SegKind}
use Rattle.kc_obj_module.specs.declared.parts.SegKind.TheVariants.{Reg, Code, Ram, Stack}
use Rattle.kc_obj_module.specs.declared.parts.Segment.{Segment}
use Rattle.kc_obj_module.specs.Object.{Object}
use Rattle.kc_link_place.specs.declared.pieces.Piece.{Piece}
use Rattle.kc_link_place.specs.declared.pieces.Stand.{Stand}

-- ---- addresses

abbrev pub has : Stand → ℕ → Bool
has s a = nat_le s.at a && nat_lt a (s.at + s.piece.size)

abbrev pub is_taken : List Stand → ℕ → Bool
is_taken [] a = false
is_taken (s ∷ ss) a = has s a || is_taken ss a

-- how many pieces have an address
abbrev pub how_many : List Stand → ℕ → ℕ
how_many [] a = 0
how_many (s ∷ ss) a = if has s a then 1 + how_many ss a else how_many ss a

-- none of so many addresses is taken
unfoldable pub leaves_room : List Stand → ℕ → ℕ → Bool
leaves_room taken from zero = true
leaves_room taken from (suc n) = not (is_taken taken from) && leaves_room taken (from + 1) n

-- the first of so many numbers from one on that passes
unfoldable pub least : (ℕ → Bool) → ℕ → ℕ → Option ℕ
least p zero from = None
least p (suc count) from = if p from then Some from else least p count (from + 1)

abbrev pub suits : List Stand → ℕ → ℕ → ℕ → ℕ → Bool
suits taken last step count a = (a % step == 0) && (nat_le (a + count) (last + 1) && leaves_room taken a count)

-- the least address of a range that is divisible by the step and has room for so many bytes
abbrev pub least_free : List Stand → ℕ × ℕ → ℕ → ℕ → Option ℕ
least_free taken range step count = least (suits taken range.1 step count) (range.1 + 1 - range.0) range.0

-- ---- pieces of modules

abbrev pub piece_of : ℕ → ℕ → Segment → Piece
piece_of index number s = record { index = index; number = number; kind = s.kind; size = s.length }

abbrev pub stand_at : Piece → ℕ → Stand
stand_at piece at = record { piece = piece; at = at }

-- the absolute pieces of a module from a number on, and those of all modules
unfoldable pub fixed_in : ℕ → ℕ → List Segment → List Stand
fixed_in index number [] = []
fixed_in index number (s ∷ ss) = elim s.at [
  | None ↦ fixed_in index (number + 1) ss
  | Some a ↦ stand_at (piece_of index number s) a ∷ fixed_in index (number + 1) ss
]

unfoldable pub fixed_from : ℕ → List Object → List Stand
fixed_from index [] = []
fixed_from index (m ∷ ms) = fixed_in index 0 m.segments ++ fixed_from (index + 1) ms

abbrev pub same_kind : SegKind → SegKind → Bool
same_kind Reg Reg = true
same_kind Code Code = true
same_kind Ram Ram = true
same_kind Stack Stack = true
same_kind _ _ = false

-- the relocatable pieces of one kind
unfoldable pub wanted_in : SegKind → ℕ → ℕ → List Segment → List Piece
wanted_in kind index number [] = []
wanted_in kind index number (s ∷ ss) = elim s.at [
  | None ↦ if same_kind kind s.kind then piece_of index number s ∷ wanted_in kind index (number + 1) ss else wanted_in kind index (number + 1) ss
  | Some a ↦ wanted_in kind index (number + 1) ss
]

unfoldable pub wanted_from : SegKind → ℕ → List Object → List Piece
wanted_from kind index [] = []
wanted_from kind index (m ∷ ms) = wanted_in kind index 0 m.segments ++ wanted_from kind (index + 1) ms

-- registers first, then code, then data, each in the order of modules
abbrev pub wanted : List Object → List Piece
wanted ms = wanted_from Reg 0 ms ++ (wanted_from Code 0 ms ++ wanted_from Ram 0 ms)
