-- Which bytes of a module the rows of a statement show (this kit's own).
use Rattle.std.specs.Prelude.{◌≡◌, ℕ, Bool, ◌+◌, ◌-◌, ◌&&◌, ◌||◌, ◌==◌, nat_lt, nat_le, List, count_by, Some, unwrap_or}
use Rattle.kc_obj_module.specs.Object.{Object}
use Rattle.kc_obj_module.specs.Contents.{content_at}
use Rattle.kc_asm.specs.Assembled.{IsModule}
use Rattle.kc_asm_list.specs.declared.spot.Spot.{Spot}
use Rattle.kc_asm_list.specs.RelocatableBytes.{piece_of, reported}
use Rattle.kc_asm_list.specs.Listed.{IsListing}
use Rattle.kc_asm_list.specs.Spots.{spots_of}

-- so many places from one on
abbrev pub is_among : ℕ → ℕ → ℕ → Bool
is_among place from count = nat_le from place && nat_lt place (from + count)

-- those that lead on to the place of the statement, and its own
abbrev pub shows_at : Object → Spot → ℕ → Bool
shows_at m s place =
    nat_lt s.before s.after
    && (is_among place s.before (reported m s s.before s.place) || is_among place s.place (reported m s s.place s.after))

-- whether the byte at an offset of a piece is one of them
abbrev pub shows : Object → ℕ → ℕ → Spot → Bool
shows m piece offset s = (piece_of m.segments s == piece) && shows_at m s (unwrap_or s.at 0 + offset)

-- each byte of the module of a source is shown by one of the statements that its listing has
abbrev pub EachByteIsShownOnce : Type 0
EachByteIsShownOnce =
    (source listed : List ℕ) (m : Object) (is : IsListing source m listed) → IsModule source m
    → (piece offset byte : ℕ) → content_at m.contents piece offset ≡ Some byte
    → count_by (shows m piece offset) (spots_of is.text is.depths is.stmts) ≡ 1
