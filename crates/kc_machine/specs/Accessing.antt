-- What the accesses of a state leave as it is, and what they cost (this kit's own).
use Rattle.std.specs.Prelude.{◌≡◌, ℕ, ◌+◌, ◌*◌, ◌<◌, ◌≤◌}
use Rattle.kc_extra.specs.declared.extra.Extra as extra
use Rattle.kc_machine.specs.declared.common.Common.{Common}
use Rattle.kc_block_spec.specs.Costs.{CostsAtMost}

-- no access has reached a unit yet, and so many unit calls and moves were counted before
pub record BeganAt {X : Type 0} {d : extra.Ghosts X} (steps_before moves_before : ℕ) (common : Common X d) (counted : ℕ) : Type 0 where
  pub unreached : common.reached ≡ 0
  pub steps : counted ≡ steps_before
  pub moves : common.block.moves ≡ moves_before

-- no unit is reached: neither the time nor what is counted changes
pub record ReachesNone {X : Type 0} {d : extra.Ghosts X} (old new : Common X d) : Type 0 where
  pub count : new.reached ≡ old.reached
  pub time : new.block.time ≡ old.block.time
  pub moves : new.block.moves ≡ old.block.moves

-- an access of the state, or none: while the count goes on, 4 unit calls and 4 moves at most for each byte that reaches a unit
pub record CountsAccess {X : Type 0} {d : extra.Ghosts X} (old new : Common X d) (steps_before steps_after : ℕ) : Type 0 where
  pub time : new.block.time ≡ old.block.time
  pub later : old.reached ≤ new.reached
  pub steps : new.reached < 64 → steps_after + 4 * old.reached ≤ steps_before + 4 * new.reached
  pub moves : new.reached < 64 → new.block.moves + 4 * old.reached ≤ old.block.moves + 4 * new.reached

-- all accesses of an activity come in one state: 4 unit calls and 4 moves at most for each of their bytes that reaches a unit
pub record WithinState {X : Type 0} {d : extra.Ghosts X} (old new : Common X d) (steps_before steps_after : ℕ) : Type 0 where
  pub time : new.block.time ≡ old.block.time
  pub costs : CostsAtMost (4 * new.reached) steps_before steps_after old.block.moves new.block.moves
