-- How many states a command lets the machine go on (this kit's own).
use Rattle.std.specs.Prelude.{ℕ, zero, suc, ◌+◌, ◌-◌, ◌==◌, Bool, false, ◌&&◌, ◌||◌, if◌then◌else◌, is_none, nat_lt, List}
use Rattle.std.specs.List.{list_any}
use Rattle.kc_extra.specs.Further.{Further}
use Rattle.kc_machine_spec.specs.Machine.{Machine, Stepped, current}
use Rattle.kc_machine_spec.specs.Run.{run_for}

-- the states that are left of the present activity, or all of the one that begins
abbrev pub activity_states : {X : Type 0} → Machine X → ℕ
activity_states m = (current m).left

-- a run to a state passes an activity at once, and its last 254 states one by one
abbrev pub states_at_once : {X : Type 0} → ℕ → Machine X → ℕ
states_at_once until m = if nat_lt (until - m.time) 255 then 1 else activity_states m

-- What stops a run, beside the state that it goes to. A run stops at the ends of activities alone, behind its first state: where
-- something was noted in a state of the activity that ends there, by the machine of that state and by what the state did, or where
-- the machine stands so.
pub record Stopping (X : Type 0) : Type 0 where
  pub notes : Machine X → Stepped X → Bool
  pub stands : Machine X → Bool

-- the machine stands at one of these addresses
abbrev pub is_at : {X : Type 0} → List ℕ → Machine X → Bool
is_at breaks m = list_any (λ addr. addr == m.cpu.pc) breaks

-- breakpoints alone
abbrev pub at_breaks : {X : Type 0} → List ℕ → Stopping X
at_breaks breaks = record { notes = λ m did. false; stands = is_at breaks }

-- an activity has ended, and the run stops there
abbrev pub stops_at : {X : Type 0} → Stopping X → Bool → Machine X → Bool
stops_at s noted m = is_none m.under_way && (noted || s.stands m)

module _ {X : Type 0} (f : Further X) where
  -- how many states so many activities take, one that is under way counted as the first
  unfoldable pub states_of_activities : ℕ → Machine X → ℕ
  states_of_activities zero m = 0
  states_of_activities (suc more) m = (current m).left + states_of_activities more (run_for f (current m).left m).machine

  -- something was noted in one of so many states, or before them
  unfoldable pub noted_for : Stopping X → Bool → ℕ → Machine X → Bool
  noted_for s noted zero m = noted
  noted_for s noted (suc more) m = let did = run_for f 1 m in noted_for s (noted || s.notes m did) more did.machine

  -- a run stops behind so many states
  abbrev pub stops_behind : Stopping X → Bool → ℕ → Machine X → Bool
  stops_behind s noted states m = stops_at s (noted_for s noted states m) (run_for f states m).machine

  -- after how many states, of so many, a run first stops; all of them where nothing stops it
  unfoldable pub states_to_stop : Stopping X → Bool → ℕ → Machine X → ℕ
  states_to_stop s noted zero m = 0
  states_to_stop s noted (suc more) m =
      let did = run_for f 1 m in
      let now = noted || s.notes m did in
      suc (if stops_at s now did.machine then 0 else states_to_stop s now more did.machine)

  -- how many states a run to a state takes
  abbrev pub states_until : Stopping X → ℕ → Machine X → ℕ
  states_until s until m = states_to_stop s false (until - m.time) m

  -- the same with breakpoints alone
  abbrev pub states_of_run : List ℕ → ℕ → Machine X → ℕ
  states_of_run breaks until m = states_until (at_breaks breaks) until m
