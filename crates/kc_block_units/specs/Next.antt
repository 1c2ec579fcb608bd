-- The due state as a number (this kit's own).
use Rattle.std.specs.Prelude.{◌≡◌, ℕ, ◌-◌, ◌^◌, ◌⊎◌, Some, None}
use Rattle.kc_span.specs.Span.{Rule, IsDue}

-- the due state, or the last number of 64 bits where there is none
abbrev pub IsDueOrLast : {D : Type 0} → Rule D → ℕ → D → ℕ → Type 0
IsDueOrLast rule now d at = IsDue rule now d (Some at) ⊎ ((at ≡ 2 ^ 64 - 1) × IsDue rule now d None)
