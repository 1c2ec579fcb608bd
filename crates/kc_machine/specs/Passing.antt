-- How the parts of a machine go on: by states without accesses, by the last state of an activity, and by whole activities (this
-- kit's own).
use Rattle.std.specs.Prelude.{◌≡◌, ℕ, ◌+◌, ◌*◌, ◌^◌, ◌<◌, ◌≤◌, ◌++◌, Option, None, IfSome, option_to_list}
use Rattle.kc_base.specs.Limits.{max_states}
use Rattle.kc_span.specs.Span.{after}
use Rattle.kc_extra.specs.Further.{Further}
use Rattle.kc_extra.specs.declared.extra.Extra as extra
use Rattle.kc_trace.specs.declared.record.Record.{Record}
use Rattle.kc_trace.specs.Out.{Out, Prints}
use Rattle.kc_trace.specs.Printable.{CanPrint}
use Rattle.kc_block_spec.specs.Touch.{block_rule, touch}
use Rattle.kc_machine_spec.specs.declared.doing.Activity.{Activity}
use Rattle.kc_machine_spec.specs.declared.doing.UnderWay.{UnderWay}
use Rattle.kc_machine_spec.specs.Board.{pins, edges_in}
use Rattle.kc_machine_spec.specs.Machine.{Machine, Stepped, finished, scene_of}
use Rattle.kc_machine_spec.specs.Passing.{at, stepped_of}
use Rattle.kc_machine_spec.specs.Run.{run_to}
use Rattle.kc_machine.specs.declared.parts.Core.{Core}
use Rattle.kc_machine.specs.Bus.{held_of}
use Rattle.kc_block_spec.specs.Costs.{CostsAtMost}
use Rattle.kc_machine.specs.Failing.{Passes}
use Rattle.kc_machine.specs.Seen.{machine_of}
use Rattle.kc_machine.specs.Sound.{IsGoing, IsPredecoded, IsSoundGoing}

-- of what comes this activity was known, with states left, and nothing has changed
pub record Knows {X : Type 0} {d : extra.Ghosts X} (activity known : UnderWay) (old new : Core X d) (steps_before steps_after : ℕ) : Type 0 where
  pub value : known ≡ activity
  pub going : IsGoing known
  pub same : new ≡ old
  pub steps : steps_after ≡ steps_before

-- so many state times without accesses, and where the machine stands then, with its activity
abbrev pub ticks_to : {X : Type 0} → Further X → Machine X → ℕ → ℕ → Option UnderWay → Stepped X
ticks_to f m now count under_way =
    stepped_of (at m now (after (block_rule f) m.time count m.board.units) under_way)
    (edges_in f m.time count m.board.units) (touch f m.time count m.board.units)

-- the parts have gone on by this stretch of the run, and its lines are printed: 4 unit calls and 4 moves at most for each part of
-- its touch
pub record GoesAs {X : Type 0} {d : extra.Ghosts X} (stretch : Stepped X) (old new : Core X d) (o p : Out) (steps_before steps_after : ℕ) : Type 0 where
  pub machine : machine_of new ≡ stretch.machine
  pub lines : Prints o stretch.records p
  pub costs : CostsAtMost (4 * stretch.touch) steps_before steps_after old.bus.block.moves new.bus.block.moves

-- between two states before this one a living machine may go on
pub record MayPass {X : Type 0} {d : extra.Ghosts X} (until : ℕ) (core : Core X d) : Type 0 where
  pub predecoded : IsPredecoded core
  pub lives : core.ended ≡ None
  pub ahead : core.time < until
  pub room : until ≤ 2 * max_states

-- the parts have gone on as the run does, to the end of an activity or of idle states, or to this state if that comes first
pub record PassesAs {X : Type 0} {d : extra.Ghosts X} (f : Further X) (until : ℕ) (old new : Core X d) (o p : Out) (steps_before steps_after : ℕ) : Type 0 where
  pub passes : Passes f until (machine_of old) (machine_of new)
  pub goes : GoesAs (run_to f new.time (machine_of old)) old new o p steps_before steps_after
  pub predecoded : IsPredecoded new

-- the accesses of an activity's last state come next
pub record IsInLastState {X : Type 0} {d : extra.Ghosts X} (core : Core X d) : Type 0 where
  pub room : core.time < 2 ^ 63
  pub between : IsSoundGoing core.going
  pub scene : held_of core.bus ≡ scene_of (machine_of core)

-- the last state of this activity is over; this is printed behind the edges of its accesses
pub record IsOver {X : Type 0} {d : extra.Ghosts X} (f : Further X) (doing : Activity) (old new : Core X d) (last : Option Record) : Type 0 where
  pub machine : stepped_of (machine_of new) (pins old.time new.bus.edges ++ option_to_list last) new.bus.reached ≡ finished f doing (machine_of old)
  pub time : new.time ≡ old.time + 1
  pub over : new.under_way ≡ None
  pub between : IsSoundGoing new.going
  pub printable : IfSome last CanPrint
