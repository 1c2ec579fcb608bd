-- Which positions of a life a mark names, by the events before them (this kit's own).
use Rattle.std.specs.Prelude.{ℕ, ◌+◌, ◌-◌, ◌*◌, ◌%◌, ◌==◌, nat_le, nat_lt, if◌then◌else◌, Bool, false, ◌&&◌, Option, Some, None, List, [], ◌∷◌, length, map, filter}
use Rattle.std.specs.Option.{option_map}
use Rattle.kc_rules.specs.declared.amount.Factor.{Factor}

-- what a mark sees of a position: whether it is one of its events, and one of those from which they are counted
pub record Hit : Type 0 where
  pub at : ℕ
  pub event : Bool
  pub from : Bool

-- the states of the events among earlier positions, of which the latest is the first
abbrev pub event_states : List Hit → List ℕ
event_states earlier = map (λ h. h.at) (filter (λ h. h.event) earlier)

-- so many states behind the event before it, at least
abbrev pub is_far : ℕ → ℕ → List ℕ → Bool
is_far least at [] = false
is_far least at (t ∷ ts) = nat_le least (at - t)

-- at least so many times as far behind it as that is behind the one before
abbrev pub is_farther : Factor → ℕ → List ℕ → Bool
is_farther share at [] = false
is_farther share at (t ∷ []) = false
is_farther share at (t ∷ u ∷ ts) = nat_le (share.num * (t - u)) (share.den * (at - t))

abbrev pub quiet_for : ℕ → Hit → List Hit → Bool
quiet_for least h earlier = h.event && is_far least h.at (event_states earlier)

abbrev pub quiet_share : Factor → Hit → List Hit → Bool
quiet_share share h earlier = h.event && is_farther share h.at (event_states earlier)

-- the last of each k events of the life
abbrev pub every : ℕ → Hit → List Hit → Bool
every k h earlier = h.event && (nat_lt 0 k && (length (filter (λ g. g.event) (h ∷ earlier)) % k == 0))

-- how many events there are from the last beginning on, with it
unfoldable pub since : List Hit → Option ℕ
since [] = None
since (h ∷ earlier) =
    if h.from then Some (if h.event then 1 else 0)
    else option_map (λ n. if h.event then n + 1 else n) (since earlier)

abbrev pub is_number : ℕ → Option ℕ → Bool
is_number k None = false
is_number k (Some n) = n == k

abbrev pub counted_from : ℕ → Hit → List Hit → Bool
counted_from k h earlier = h.event && is_number k (since (h ∷ earlier))
