-- What holds over time, given by items that each come at a state time and bring a value (this kit's own).
use Rattle.std.specs.Prelude.{ℕ, nat_le, List, [], ◌∷◌, filter}

-- the items up to a state
abbrev pub up_to : {X : Type 0} → (X → ℕ) → ℕ → List X → List X
up_to time t items = filter (λ x. nat_le (time x) t) items

-- the value that these items leave, one after the other
abbrev pub last_of : {X V : Type 0} → (X → V) → List X → V → V
last_of value [] before = before
last_of value (x ∷ items) before = last_of value items (value x)
