-- Edges, each in its state, that are handed out one after the other (this kit's own).
use Rattle.std.specs.Prelude.{◌≡◌, ℕ, List, [], ◌∷◌}
use Rattle.kc_base.specs.declared.types.Edge.{Edge}

abbrev pub Leads : {O : Type 0} → (O → ℕ → Edge → O → Type 0) → O → List (ℕ × Edge) → O → Type 0
Leads led o [] p = o ≡ p
Leads {O = O} led o (e ∷ es) p = (q : O) × (led o e.0 e.1 q × Leads led q es p)
