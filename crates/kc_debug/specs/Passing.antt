-- What a part of a command has done to a machine, to a trace, and to the activities that are kept (this kit's own).
use Rattle.std.specs.Prelude.{◌≡◌, ℕ, ◌+◌, ◌*◌, ◌<◌, ◌≤◌, ◌⊎◌, Bool, false, None, List, ◌++◌}
use Rattle.circular_buffer.specs.Buffer.{Buffer, buffer, keep_last}
use Rattle.kc_extra.specs.Further.{Further}
use Rattle.kc_trace.specs.Out.{Out, Prints}
use Rattle.kc_machine_spec.specs.Machine.{Machine, current}
use Rattle.kc_machine_spec.specs.Run.{run_for}
use Rattle.kc_machine.specs.Board.{Whole}
use Rattle.kc_machine.specs.Stepping.{IdlesFor}
use Rattle.kc_debug.specs.declared.activities.Begun.{Begun}
use Rattle.kc_debug.specs.Activities.{beginning, begun_for}
use Rattle.kc_debug.specs.Stops.{Stopping, stops_behind}

-- as many activities are kept as there is room for, the last ones
abbrev pub IsKept : Buffer Begun → Type 0
IsKept r = r.items ≡ keep_last r.capacity r.items

module _ {X : Type 0} (f : Further X) where
  -- some states of one activity have passed
  pub record Passed (states : ℕ) (m : Machine X) (o : Out) (r : Buffer Begun) (n : Machine X) (p : Out) (q : Buffer Begun) : Type 0 where
    pub some : 0 < states
    pub few : 1 < states → states ≤ (current m).left
    pub machine : n ≡ (run_for f states m).machine
    pub time : n.time ≡ m.time + states
    pub lines : Prints o (run_for f states m).records p
    pub begun : q ≡ buffer (keep_last r.capacity (r.items ++ beginning m)) r.capacity

  -- before the last of so many states nothing stops a run, whatever was noted in the activity that is under way
  abbrev pub IsClear : Stopping X → ℕ → Machine X → Type 0
  IsClear s states m = (noted : Bool) → (m.under_way ≡ None → noted ≡ false) → (i : ℕ) → 0 < i → i < states → stops_behind f s noted i m ≡ false

  -- states that pass at once: idle ones, or some of one activity
  abbrev pub AreAtOnce : ℕ → Machine X → Type 0
  AreAtOnce states m = IdlesFor f states m ⊎ (1 < states → states ≤ (current m).left)

  -- a run of so many states was followed to its end, or to states that passed at once there
  pub record IsFollowed (follows : ℕ → Type 0) (states : ℕ) (m : Machine X) : Type 0 where
    pub looked : ℕ
    pub rest : ℕ
    pub all : states ≡ looked + rest
    pub there : follows looked
    pub at_once : AreAtOnce rest (run_for f looked m).machine
    pub lives : 0 < rest → (run_for f looked m).machine.ended ≡ None

  -- the lines of some states have been put, and the activities that begin in them are noted
  pub record Reported (states : ℕ) (m : Machine X) (o : Out) (r : Buffer Begun) (p : Out) (q : Buffer Begun) : Type 0 where
    pub some : 0 < states
    pub lines : Prints o (run_for f states m).records p
    pub begun : q ≡ buffer (keep_last r.capacity (r.items ++ begun_for f states m)) r.capacity

  -- and the machine stands behind them
  pub record Stood (states : ℕ) (m n : Machine X) : Type 0 where
    pub machine : n ≡ (run_for f states m).machine
    pub time : n.time ≡ m.time + states

  -- units were called, and moved, at most four times the touch of so many states
  pub record Spends (states : ℕ) (m : Whole X) (s : ℕ) (n : Whole X) (t : ℕ) : Type 0 where
    pub steps : t ≤ s + 4 * (run_for f states m.machine).touch
    pub moves : n.moves ≤ m.moves + 4 * (run_for f states m.machine).touch

  -- the same with looks at what stops the run: before its first state, and behind the states that pass at once
  pub record SpendsLooking (looks states : ℕ) (m : Whole X) (s : ℕ) (n : Whole X) (t : ℕ) : Type 0 where
    pub steps : t ≤ s + 4 * (run_for f states m.machine).touch
    pub moves : n.moves ≤ m.moves + (4 * (run_for f states m.machine).touch + looks * (states + 1))

  -- so many states have passed, and the activities that began in them are noted
  pub record Gone (states : ℕ) (m : Machine X) (r : Buffer Begun) (n : Machine X) (q : Buffer Begun) : Type 0 where
    pub machine : n ≡ (run_for f states m).machine
    pub begun : q ≡ buffer (keep_last r.capacity (r.items ++ begun_for f states m)) r.capacity
