-- What is counted beside the accesses of a bus (this kit's own).
use Rattle.std.specs.Prelude.{◌≡◌, ℕ, ◌+◌, ◌≤◌, List}

-- by an access, or by several, what is spent grows no more than what may be spent; what is lent to the bus stays the same
pub record KeepsCount {B H : Type 0} (spent : B → ℕ) (held : B → H) (allowed : H → ℕ) (lent : B → List ℕ) (old new : B) : Type 0 where
  pub within : spent new + allowed (held old) ≤ spent old + allowed (held new)
  pub same : lent new ≡ lent old
