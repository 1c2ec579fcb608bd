-- An access after the Ticks that come before it.
use Rattle.std.proofs.Common.{◌≡◌, ℕ, ◌+◌, ◌-◌, ◌∙◌, ap, subst, arith, List, ◌++◌}
use Rattle.kc_base.specs.declared.types.Edge.{Edge}
use Rattle.kc_block_spec.specs.Units.{Units}
use Rattle.kc_block_spec.specs.Accesses.{latch_edges}
use Rattle.kc_block_spec.specs.Touch.{in_state}
use Rattle.kc_block_spec.specs.Leading.{Leads}
use Rattle.kc_block_units.proofs.Leads.{leads_on}

before_next : (time at : ℕ) → time ≡ at + 1 → time - 1 ≡ at
before_next time at next = omega arith

-- what is known of the state whose Tick was the last, and of the units after it
pub there : {A X : Type 0} (reports : ℕ → Units X → A) (time at : ℕ) (u v : Units X) → time ≡ at + 1 → u ≡ v → reports (time - 1) u ≡ reports at v
there reports time at u v next same = ap (λ t. reports t u) (before_next time at next) ∙ ap (reports at) same

-- the edges of Ticks, and then those of a write
pub leads_there : {O X : Type 0} (led : O → ℕ → Edge → O → Type 0) (o q p : O) (ticks : List (ℕ × Edge)) (time at : ℕ) (u v new : Units X) → time ≡ at + 1 → u ≡ v →
    Leads led o ticks q → Leads led q (in_state (time - 1) (latch_edges u new)) p → Leads led o (ticks ++ in_state at (latch_edges v new)) p
leads_there led o q p ticks time at u v new next same first then =
    leads_on led o q p ticks _ first
    (subst (λ es. Leads led q es p) (there (λ t w. in_state t (latch_edges w new)) time at u v next same) then)
