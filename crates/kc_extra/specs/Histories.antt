-- A further unit over all states, from the starts and the accesses so far, where no input pin is its own (this kit's own).
use Rattle.std.specs.Prelude.{ℕ, Bool, if◌then◌else◌, List, fold}
use Rattle.std.proofs.Common.{zero, suc}
use Rattle.kc_extra.specs.Further.{Further}

-- a write of a value, or a read
pub record Access : Type 0 where
  pub is_write : Bool
  pub window : ℕ
  pub sfr : ℕ
  pub value : ℕ

-- whether HSO channel 15 starts the unit in a state, and the accesses of each state in their order
pub record Driven : Type 0 where
  pub starts : ℕ → Bool
  pub accesses : ℕ → List Access

abbrev pub accessed : {X : Type 0} → Further X → ℕ → X → Access → X
accessed unit t d a = if a.is_write then unit.after_write a.window a.sfr a.value t d else unit.after_read a.window a.sfr t d

abbrev pub started_if : {X : Type 0} → Further X → Bool → ℕ → X → X
started_if unit starts t d = if starts then unit.started t d else d

-- the unit as state t begins, from its data at the start; in each state the Tick comes first, then a start, then the accesses
unfoldable pub data_at : {X : Type 0} → Further X → X → Driven → ℕ → X
data_at unit d h zero = d
data_at unit d h (suc t) = fold (accessed unit t) (started_if unit (h.starts t) t (unit.rest t (data_at unit d h t))) (h.accesses t)
