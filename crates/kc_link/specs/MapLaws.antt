-- What the runs of free addresses say (this kit's own).
use Rattle.std.specs.Prelude.{◌≡◌, ℕ, Bool, false, ◌+◌, ◌<◌, ◌≤◌, ◌||◌, List, [], ◌∷◌}
use Rattle.kc_link.specs.Free.{Run, covers, free_runs}

-- an address is in one of the runs
abbrev pub in_runs : List Run → ℕ → Bool
in_runs [] address = false
in_runs (r ∷ rs) address = covers r.first r.length address || in_runs rs address

-- each run has an address, and lies behind the one before with an address between them
abbrev pub AreApart : ℕ → List Run → Type 0
AreApart from [] = Unit {0}
AreApart from (r ∷ rs) = (from ≤ r.first) × (0 < r.length) × AreApart (r.first + r.length + 1) rs

-- Among so many addresses from one on, those that pass are those of the runs, which stand apart: each is as long as it can be.
abbrev pub FreeRunsAreFree : Type 0
FreeRunsAreFree = (free : ℕ → Bool) (count from : ℕ) →
    AreApart from (free_runs free count from 0) × ((address : ℕ) → from ≤ address → address < from + count → in_runs (free_runs free count from 0) address ≡ free address)
