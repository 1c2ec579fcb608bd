-- An access at a state: the Ticks up to and with that state, and then the access (this kit's own).
use Rattle.std.specs.Prelude.{ℕ, ◌+◌, ◌-◌, ◌*◌, ◌++◌, List}
use Rattle.kc_base.specs.declared.types.Edge.{Edge}
use Rattle.kc_span.specs.Span.{after}
use Rattle.kc_extra.specs.Further.{Further}
use Rattle.kc_block_spec.specs.Units.{Units}
use Rattle.kc_block_spec.specs.Touch.{block_rule, touch, edges_of, in_state}
use Rattle.kc_block_spec.specs.Accesses.{latch_edges}
use Rattle.kc_block.specs.Seen.{Seen}

-- the units after the Tick of a state
abbrev pub units_past : {X : Type 0} → Further X → Seen X → ℕ → Units X
units_past f s at = after (block_rule f) s.time (at + 1 - s.time) s.units

-- the edges of the Ticks up to and with that of the state
abbrev pub edges_past : {X : Type 0} → Further X → Seen X → ℕ → List (ℕ × Edge)
edges_past f s at = edges_of f s.time (at + 1 - s.time) s.units

-- and then those of a write that leaves these units
abbrev pub edges_with : {X : Type 0} → Further X → Seen X → ℕ → Units X → List (ℕ × Edge)
edges_with f s at new = edges_past f s at ++ in_state at (latch_edges (units_past f s at) new)

-- four unit calls for each unit that one of these Ticks touches
abbrev pub calls_past : {X : Type 0} → Further X → Seen X → ℕ → ℕ
calls_past f s at = 4 * touch f s.time (at + 1 - s.time) s.units
