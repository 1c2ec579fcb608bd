-- The free addresses as sorted gaps, with a taken address between any two.
use Rattle.std.specs.Prelude.{◌≡◌, ℕ, Bool, false, ◌+◌, ◌*◌, ◌/◌, ◌<◌, ◌≤◌, ◌==◌, ◌&&◌, ◌||◌, not, nat_lt, nat_le, min, max, if◌then◌else◌, Option, Some, None, List, [], ◌∷◌, length, slice_index}
use Rattle.kc_obj_module.specs.declared.parts.SegKind.{SegKind}
use Rattle.kc_obj_module.specs.declared.parts.SegKind.TheVariants.{Reg}
use Rattle.kc_link_place.specs.declared.gaps.Gap.{Gap}
use Rattle.kc_link_place.specs.declared.pieces.Stand.{Stand}
use Rattle.kc_link_place.specs.Stands.{is_taken, how_many}

abbrev pub in_gaps : List Gap → ℕ → Bool
in_gaps [] a = false
in_gaps (g ∷ gs) a = (nat_le g.from a && nat_lt a g.end) || in_gaps gs a

-- each gap begins at `low` or after it, and a taken address stands between two
abbrev pub Sorted : ℕ → List Gap → Type 0
Sorted low [] = Unit {0}
Sorted low (g ∷ gs) = (low ≤ g.from) × ((g.from ≤ g.end) × Sorted (g.end + 1) gs)

pub record Represents (gaps : List Gap) (taken : List Stand) : Type 0 where
  pub sorted : Sorted 0 gaps
  pub free : (a : ℕ) → in_gaps gaps a ≡ (nat_lt a 65536 && not (is_taken taken a))

-- the least address from one on that suits the kind
abbrev pub up : SegKind → ℕ → ℕ
up Reg n = (n + 3) / 4 * 4
up _ n = (n + 1) / 2 * 2

-- the first suitable address of a range in the first gap that has room there
abbrev pub first_fit : ℕ → ℕ → SegKind → ℕ → List Gap → Option ℕ
first_fit low last kind count [] = None
first_fit low last kind count (g ∷ gs) =
    if nat_le (up kind (max low g.from) + count) (min g.end (last + 1)) then Some (up kind (max low g.from)) else first_fit low last kind count gs

-- the first suitable address of a range, free or not
abbrev pub empty_fit : SegKind → ℕ → ℕ → Option ℕ
empty_fit kind low last = if nat_le (up kind low) last then Some (up kind low) else None

-- the gaps without so many addresses from one on; a gap may then be empty
abbrev pub cut : List Gap → ℕ → ℕ → List Gap
cut [] a count = []
cut (g ∷ gs) a count =
    if nat_le g.from a && nat_le (a + count) g.end then (record { from = g.from; end = a }) ∷ (record { from = a + count; end = g.end }) ∷ gs
    else g ∷ cut gs a count

-- ---- by which the gaps are made from how many pieces have each address

-- each number is that of the pieces that have the address
abbrev pub Counts : List ℕ → List Stand → Type 0
Counts cover stands = (length cover ≡ 65536) × ((a : ℕ) → a < 65536 → slice_index cover a ≡ how_many stands a)

-- how many pieces begin at an address, and how many end before it
abbrev pub begins_at : List Stand → ℕ → ℕ
begins_at [] a = 0
begins_at (s ∷ ss) a = if s.at == a then 1 + begins_at ss a else begins_at ss a

abbrev pub ends_at : List Stand → ℕ → ℕ
ends_at [] a = 0
ends_at (s ∷ ss) a = if s.at + s.piece.size == a then 1 + ends_at ss a else ends_at ss a

-- how many pieces have the address before one
abbrev pub open_at : List Stand → ℕ → ℕ
open_at [] a = 0
open_at (s ∷ ss) a = if nat_lt s.at a && nat_le a (s.at + s.piece.size) then 1 + open_at ss a else open_at ss a

-- a table has a number for each address, and for the one behind all
abbrev pub Reports : List ℕ → (ℕ → ℕ) → Type 0
Reports table f = (length table ≡ 65537) × ((a : ℕ) → a < 65537 → slice_index table a ≡ f a)

-- all gaps end before an address
abbrev pub EndBefore : ℕ → List Gap → Type 0
EndBefore a [] = Unit {0}
EndBefore a (g ∷ gs) = (g.end < a) × EndBefore a gs

-- no piece has an address, by how many have it
abbrev pub is_free : List ℕ → ℕ → Bool
is_free cover a = slice_index cover a == 0
