-- Finite maps of names.
use Rattle.std.specs.Prelude.{ℕ, List, map}
use Rattle.std.specs.Ordering.{nat_cmp}
use Rattle.std.specs.Cmp.Lexicographic.{slice_cmp}
use Rattle.std.specs.FinMap.{FinMap, from_entries, code}
use Rattle.std.specs.Coded.{Coded, coded_list, coded_ℕ}
use Rattle.std.specs.Global.{Vec}

abbrev pub ByName : Type 0 → Type 0
ByName V = FinMap (slice_cmp nat_cmp) V

abbrev pub by_name_code : {V : Type 0} → Coded V → Coded (ByName V)
by_name_code v = code (coded_list coded_ℕ) v

-- the entries, with the bytes of each name
abbrev pub named : {V : Type 0} → List (Vec ℕ × V) → List (List ℕ × V)
named es = map (λ e. (e.0.items, e.1)) es

abbrev pub by_name : {V : Type 0} → List (Vec ℕ × V) → ByName V
by_name es = from_entries (named es)
