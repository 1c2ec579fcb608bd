-- That a further unit fits a board at its start, whatever drives the board's inputs from there on (this kit's own).
use Rattle.std.specs.Prelude.{◌≡◌, ℕ, [], bit_xor}
use Rattle.kc_stim.specs.Drives.{Drives}
use Rattle.kc_block_spec.specs.Levels.{stimulated_before}

-- what it keeps are the levels before state 0
abbrev pub FitsEachBoard : {X : Type 0} → (ℕ → ℕ → X → Type 0) → X → Type 0
FitsEachBoard agrees d = (drives : Drives) (m : ℕ) → drives.stimuli.start ≡ [] → agrees m (bit_xor (stimulated_before drives 0) m) d
