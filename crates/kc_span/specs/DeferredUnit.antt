-- A unit that stands at a state of its own, not after the present one, and what is shown of it (this kit's own).
use Rattle.std.specs.Prelude.{◌≡◌, ℕ, ◌-◌, ◌==◌, ◌≤◌, Bool, false, Option, Some, None}
use Rattle.kc_span.specs.Span.{Rule, after, IsDue}

-- the state at whose start it stands, and its data there
pub record DeferredUnit (D : Type 0) : Type 0 where
  pub at : ℕ
  pub kept : D

-- what the Ticks from there up to the start of state t lead to
abbrev pub shown : {D : Type 0} → Rule D → DeferredUnit D → ℕ → D
shown rule deferred t = after rule deferred.at (t - deferred.at) deferred.kept

-- a deferred unit that stands at a state
abbrev pub deferred_at : {D : Type 0} → ℕ → D → DeferredUnit D
deferred_at at kept = record { at = at; kept = kept }

-- the deferred unit caught up forward to the present state
abbrev pub caught_up_to : {D : Type 0} → Rule D → ℕ → DeferredUnit D → DeferredUnit D
caught_up_to rule now deferred = deferred_at now (shown rule deferred now)

-- a state is the due one
abbrev pub is_due_in : ℕ → Option ℕ → Bool
is_due_in t None = false
is_due_in t (Some u) = u == t

-- a deferred unit in the present state, and its due state as it was asked where the deferred unit stands
pub record IsDeferred {D : Type 0} (rule : Rule D) (deferred : DeferredUnit D) (now : ℕ) (slot : Option ℕ) : Type 0 where
  pub first : deferred.at ≤ now
  pub due : IsDue rule deferred.at deferred.kept slot
  pub later : (u : ℕ) → slot ≡ Some u → now ≤ u

-- two rules do the same in each state from a state on
pub record AreAlike {D : Type 0} (a b : Rule D) (from : ℕ) : Type 0 where
  pub step : (t : ℕ) (d : D) → from ≤ t → a.step t d ≡ b.step t d
  pub quiet : (t : ℕ) (d : D) → from ≤ t → a.quiet t d ≡ b.quiet t d
