-- What a certificate has to keep to (this kit's own).
--
-- The potential of an address is how many states may be left from there on. An instruction spends its states from it, and what is
-- left is the potential of where it goes on. A begin of a loop's head has the price of the loop beside that. A begin of an address
-- at which the count of a loop starts anew spends the prices of all its turns. What is left where a pass is over is the floor; a
-- return hands on the potential of where it comes back to, above the floor.
use Rattle.std.specs.Prelude.{◌≡◌, ℕ, Bool, true, false, not, ◌+◌, ◌-◌, ◌*◌, ◌==◌, ◌&&◌, ◌||◌, nat_lt, nat_le, if◌then◌else◌, Option, Some, None, option_and_then, List, [], ◌∷◌, slice_get}
use Rattle.std.specs.List.{list_all}
use Rattle.kc_base.specs.Limits.{image_start}
use Rattle.kc_bound.specs.declared.notes.Loop.{Loop}
use Rattle.kc_bound.specs.declared.notes.Notes.{Notes}
use Rattle.kc_bound.specs.declared.way.Way.{Way}
use Rattle.kc_bound.specs.declared.way.Way.TheVariants.{To, Call, Back, Out}
use Rattle.kc_bound.specs.declared.certificate.Standing.{Standing}
use Rattle.kc_bound.specs.declared.certificate.Certificate.{Certificate}
use Rattle.kc_bound.specs.declared.certificate.Bound.{Bound}
use Rattle.kc_bound.specs.Notes.{is_end, turns_at, turns_at_first}
use Rattle.kc_bound.specs.Ways.{ways_at}

abbrev pub standing_at : Certificate → ℕ → Option Standing
standing_at c a = if nat_lt a image_start then None else option_and_then (λ s. s) (slice_get c.standings.items (a - image_start))

-- ---- prices

-- the prices of loops, each so many times
abbrev pub priced : (Loop → ℕ) → List Loop → List ℕ → ℕ
priced times [] prices = 0
priced times (l ∷ loops) [] = 0
priced times (l ∷ loops) (price ∷ prices) = times l * price + priced times loops prices

abbrev pub begins_at : ℕ → Loop → ℕ
begins_at a l = if l.head == a then 1 else 0

-- of the loops whose head an address is
abbrev pub price_at : Notes → Certificate → ℕ → ℕ
price_at notes c a = priced (begins_at a) notes.loops.items c.prices.items

-- of all turns of the loops whose count starts anew at an address
abbrev pub credit_at : Notes → Certificate → ℕ → ℕ
credit_at notes c a = priced (turns_at a) notes.loops.items c.prices.items

-- of all turns of the loops that are noted for the whole pass
abbrev pub prepaid : Notes → Certificate → ℕ
prepaid notes c = priced turns_at_first notes.loops.items c.prices.items

-- ---- what a way asks

abbrev pub implies : Bool → Bool → Bool
implies a b = not a || b

-- from one address to another of the same routine
abbrev pub follows : Standing → Standing → Bool
follows here there = nat_le there.rank here.rank && implies there.leaves here.leaves

abbrev pub pays_on : Standing → ℕ → ℕ → Option Standing → Bool
pays_on here has spent None = false
pays_on here has spent (Some there) = nat_le (spent + there.potential) has && follows here there

-- into a routine, and then behind the call; with whether a pass is over there
abbrev pub pays_call : ℕ → Standing → ℕ → ℕ → Bool → Option Standing → Option Standing → Bool
pays_call floor here has spent is_last (Some there) (Some behind) =
    nat_le (spent + there.potential + behind.potential) (has + floor)
    && (nat_lt there.rank here.rank && (follows here there && follows here behind))
    && (implies (there.leaves || is_last) (nat_le floor behind.potential) && implies is_last here.leaves)
pays_call floor here has spent is_last _ _ = false

-- with what an address has, and what it spends
abbrev pub pays : Notes → Certificate → Standing → ℕ → ℕ → Way → Bool
pays notes c here has credit (To states target) = pays_on here has (states + credit) (standing_at c target)
pays notes c here has credit (Call states target back) = pays_call c.floor here has (states + credit) (is_end notes back) (standing_at c target) (standing_at c back)
pays notes c here has credit (Back states) = nat_le (states + credit + c.floor) has
pays notes c here has credit (Out states) = nat_le (states + credit + c.floor) has && here.leaves

-- each way on from an address, of which there is one or more
abbrev pub pays_all : Notes → Certificate → ℕ → Standing → Option (List Way) → Bool
pays_all notes c a here None = false
pays_all notes c a here (Some []) = false
pays_all notes c a here (Some ways) = list_all (pays notes c here (here.potential + price_at notes c a) (credit_at notes c a)) ways

-- Nothing is asked of an address at which a pass is over, but of the first one.
abbrev pub is_sound_at : List ℕ → Notes → ℕ → Certificate → ℕ → Option Standing → Bool
is_sound_at image notes from c a None = true
is_sound_at image notes from c a (Some here) = (is_end notes a && not (a == from)) || pays_all notes c a here (ways_at image notes a)

-- a certificate for an image and notes, and passes from an address
pub record Certified (image : List ℕ) (notes : Notes) (from : ℕ) (c : Certificate) (first : Standing) : Type 0 where
  pub begins : standing_at c from ≡ Some first
  pub sound : (a : ℕ) → is_sound_at image notes from c a (standing_at c a) ≡ true

-- A certificate shows a bound. Where a pass is over, the floor is left of what it has at first; before that each open call may have
-- spent as much more.
pub record Shows (image : List ℕ) (notes : Notes) (from : ℕ) (c : Certificate) (b : Bound) : Type 0 where
  pub first : Standing
  pub certified : Certified image notes from c first
  pub over : b.over + c.floor ≡ first.potential + prepaid notes c
  pub always : b.always ≡ first.potential + prepaid notes c + c.floor * first.rank
