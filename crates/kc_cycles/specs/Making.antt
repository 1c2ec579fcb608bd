-- The further unit of a life, and the watchdog beside it (this kit's own).
use Rattle.std.specs.Prelude.{◌≡◌, ◌≤◌, ◌+◌, ◌*◌, ℕ, Option, Result, List, bit_xor}
use Rattle.kc_extra.specs.declared.extra.Extra as extra
use Rattle.kc_extra.specs.declared.pair.Pair.{Pair}
use Rattle.kc_extra.specs.Further.{Further}
use Rattle.kc_stim.specs.Drives.{Drives, driven_from}
use Rattle.kc_trace.specs.Out.{Out}
use Rattle.kc_block_spec.specs.Levels.{stimulated_before}
use Rattle.kc_machine_spec.specs.declared.doing.End.{End}
use Rattle.kc_cycles.specs.declared.lives.LivesFault.{LivesFault}
use Rattle.kc_cycles.specs.declared.watchdog.Watchdog.{Watchdog}
use Rattle.kc_cycles.specs.Watching.{new_watchdog}
use Rattle.kc_cycles.specs.Lives.{lives_of, lives_touch, work_of_lives, AreReported}

-- a unit keeps the levels that the inputs have before a state
abbrev pub KeepsFrom : {X : Type 0} → (ℕ → ℕ → X → Type 0) → Drives → ℕ → X → Type 0
KeepsFrom agrees drives from unit = (edges : ℕ) → agrees edges (bit_xor (stimulated_before (driven_from from drives) 0) edges) unit

module _ {X : Type 0} {dx : extra.Ghosts X} {dw : extra.Ghosts Watchdog} where
  -- these data of a unit, and a watchdog that nothing has fed
  pub record IsWatched (unit : X) (both : Pair X Watchdog dx dw) : Type 0 where
    pub first : both.first ≡ unit
    pub second : both.second ≡ new_watchdog
    pub moves : both.moves ≡ 0

  -- the state at whose start the watchdog resets the chip
  abbrev pub deadline_of : Pair X Watchdog dx dw → Option ℕ
  deadline_of both = both.second.deadline

  -- Lives of an image were run. The further unit of the life that begins at a state is made for that state, beside a new
  -- watchdog; units were called at most four times the touch of all lives, and at most sixteen times their work.
  pub record Lived (f : Further (Pair X Watchdog dx dw)) (made : ℕ → X) (image : List ℕ) (drives : Drives) (until most : ℕ) (old : Out) (s : ℕ) (result : Result End LivesFault) (new : Out) (t : ℕ) : Type 0 where
    pub unit : ℕ → Pair X Watchdog dx dw
    pub is_made : (from : ℕ) → IsWatched (made from) (unit from)
    pub reported : AreReported (lives_of f deadline_of image drives unit until most) old result new
    pub spent : t ≤ s + 4 * lives_touch (lives_of f deadline_of image drives unit until most)
    pub worked : t ≤ s + 16 * work_of_lives f deadline_of image drives unit until most
