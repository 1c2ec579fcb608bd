-- Code contents of a module: runs of bytes as long as they can be, cut every 1,024 bytes (this kit's own).
use Rattle.std.specs.Prelude.{◌≡◌, ℕ, Bool, true, false, ◌+◌, ◌-◌, ◌==◌, ◌&&◌, ◌||◌, nat_lt, nat_le, if◌then◌else◌, Option, None, List, [], ◌∷◌, length, slice_get}
use Rattle.kc_obj_module.specs.declared.parts.Segment.{Segment}
use Rattle.kc_obj_module.specs.declared.parts.Content.{Content}
use Rattle.kc_obj_module.specs.Pieces.{has_code}

abbrev pub content_end : Content → ℕ
content_end c = c.offset + length c.bytes

abbrev pub content_is_sound : List Segment → Content → Bool
content_is_sound segments c = nat_lt 0 (length c.bytes) && nat_le (length c.bytes) 1024 && has_code (slice_get segments c.piece) (content_end c)

-- a run ends before the next one begins; it touches it only where it is full
abbrev pub leaves_place : Content → ℕ → ℕ → Bool
leaves_place c piece offset =
    nat_lt c.piece piece
    || ((c.piece == piece) && (nat_lt (content_end c) offset || ((content_end c == offset) && (length c.bytes == 1024))))

abbrev pub content_follows : Content → Content → Bool
content_follows c d = leaves_place c d.piece d.offset

unfoldable pub contents_in_order : List Content → Bool
contents_in_order [] = true
contents_in_order (c ∷ []) = true
contents_in_order (c ∷ d ∷ cs) = content_follows c d && contents_in_order (d ∷ cs)

abbrev pub covers : Content → ℕ → ℕ → Bool
covers c piece offset = (c.piece == piece) && nat_le c.offset offset && nat_lt offset (content_end c)

abbrev pub byte_of : Content → ℕ → ℕ → Option ℕ
byte_of c piece offset = if covers c piece offset then slice_get c.bytes (offset - c.offset) else None

-- the byte that stands at an offset of a piece, if one does
unfoldable pub content_at : List Content → ℕ → ℕ → Option ℕ
content_at [] piece offset = None
content_at (c ∷ cs) piece offset = if covers c piece offset then slice_get c.bytes (offset - c.offset) else content_at cs piece offset

-- the whole run stands before a place
abbrev pub is_over : Content → ℕ → ℕ → Bool
is_over c piece offset = nat_lt c.piece piece || ((c.piece == piece) && nat_le (content_end c) offset)

-- a place stands at another one or after it
abbrev pub is_from : ℕ → ℕ → ℕ → ℕ → Bool
is_from piece offset later_piece later_offset = nat_lt piece later_piece || ((piece == later_piece) && nat_le offset later_offset)

-- the same bytes stand from a place on
abbrev pub SameFrom : ℕ → ℕ → List Content → List Content → Type 0
SameFrom piece offset cs ds = (p o : ℕ) → is_from piece offset p o ≡ true → content_at cs p o ≡ content_at ds p o

-- the first run, if there is one, does not stand before a place
abbrev pub BeginsFrom : ℕ → ℕ → List Content → Type 0
BeginsFrom piece offset [] = Unit {0}
BeginsFrom piece offset (c ∷ cs) = is_over c piece offset ≡ false

-- the byte that the first run has at a place
abbrev pub byte_of_first : List Content → ℕ → ℕ → Option ℕ
byte_of_first [] piece offset = None
byte_of_first (c ∷ cs) piece offset = byte_of c piece offset
