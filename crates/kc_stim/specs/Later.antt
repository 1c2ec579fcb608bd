-- The states of edges when a state becomes state 0 (this kit's own).
use Rattle.std.specs.Prelude.{ℕ, ◌-◌, nat_le, List, map, filter}

-- those from a state on, counted from it
abbrev pub edges_from : ℕ → List ℕ → List ℕ
edges_from at edges = map (λ e. e - at) (filter (λ e. nat_le at e) edges)
