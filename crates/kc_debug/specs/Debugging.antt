-- What is known of a script that was carried out over lives (this kit's own).
use Rattle.std.specs.Prelude.{◌≡◌, ◌≤◌, ◌<◌, ℕ, zero, suc, ◌+◌, ◌-◌, nat_lt, Bool, false, true, IfSome, IfOk, OnOk, Option, Some, None, Result, Ok, Err, List, [], ◌∷◌, ◌++◌, map}
use Rattle.std.specs.List.{Any}
use Rattle.circular_buffer.specs.Buffer.{Buffer, buffer, keep_last}
use Rattle.kc_base.specs.Limits.{max_states}
use Rattle.kc_extra.specs.declared.extra.Extra as extra
use Rattle.kc_extra.specs.declared.pair.Pair.{Pair}
use Rattle.kc_extra.specs.Further.{Further}
use Rattle.kc_stim.specs.Drives.{Drives, driven_from}
use Rattle.kc_trace.specs.Out.{Out, Puts}
use Rattle.kc_trace.specs.Text.{line_of}
use Rattle.kc_trace.specs.declared.trace.WriteFault.{WriteFault}
use Rattle.kc_machine_spec.specs.declared.doing.End.{End}
use Rattle.kc_machine_spec.specs.declared.doing.End.TheVariants as end
use Rattle.kc_machine_spec.specs.Machine.{Machine, current, start}
use Rattle.kc_machine_spec.specs.Run.{still, end_of}
use Rattle.kc_machine_spec.specs.Text.{HasRun}
use Rattle.kc_machine.specs.Stepping.{end_line}
use Rattle.kc_cycles.specs.Life.{Life, life_for}
use Rattle.kc_cycles.specs.Watching.{patience}
use Rattle.kc_cycles.specs.declared.lives.LivesFault.{LivesFault}
use Rattle.kc_cycles.specs.declared.lives.LivesFault.TheVariants as fault
use Rattle.kc_cycles.specs.declared.watchdog.Watchdog.{Watchdog}
use Rattle.kc_cycles.specs.Making.{IsWatched, deadline_of}
use Rattle.kc_debug_script.specs.declared.command.Command.{Command}
use Rattle.kc_debug_script.specs.declared.line_map.MapEntry.{MapEntry}
use Rattle.kc_debug.specs.declared.activities.Begun.{Begun}
use Rattle.kc_debug.specs.declared.past.Past.{Past}
use Rattle.kc_debug.specs.declared.life.DebuggedLife.{DebuggedLife}
use Rattle.kc_debug.specs.Activities.{begun_for}
use Rattle.kc_debug.specs.InLives.{InLife, end_in, in_lives, says, stand_line}
use Rattle.kc_debug.specs.Passing.{Passed}

-- ---- what is answered

-- The transcript is written whole, and the script has ended so; or the sink fails in it; or memory runs out, before it begins or
-- behind a line between two lives.
abbrev pub IsAnswered : {X : Type 0} → InLife X → Out → Result End LivesFault → Out → Type 0
IsAnswered l old (Ok how) new = (how ≡ end_in l) × Puts old l.text new × (new.failed ≡ false)
IsAnswered l old (Err fault.WriteFault) new = Puts old l.text new × (new.failed ≡ true)
IsAnswered l old (Err fault.NoMemory) new = Any (λ text. Puts old text new) ([] ∷ l.pauses) × (new.failed ≡ false)

-- and of a command, whose text is written; memory runs out only behind such a line
abbrev pub IsDone : {A X : Type 0} → InLife X → Out → Result A LivesFault → Out → Type 0
IsDone l old (Ok done) new = Puts old l.text new × (new.failed ≡ false)
IsDone l old (Err fault.WriteFault) new = Puts old l.text new × (new.failed ≡ true)
IsDone l old (Err fault.NoMemory) new = Any (λ text. Puts old text new) l.pauses × (new.failed ≡ false)

-- ---- the deadline

abbrev pub is_before : Option ℕ → ℕ → Bool
is_before None t = false
is_before (Some at) t = nat_lt at t

-- the deadline has not gone by, and it is that of a feeding up to now
abbrev pub IsInTime : Option ℕ → ℕ → Type 0
IsInTime None now = Unit {0}
IsInTime (Some at) now = (patience ≤ at) × (now ≤ at) × (at ≤ now + patience)

-- and it has not come
abbrev pub IsAhead : Option ℕ → ℕ → Type 0
IsAhead None now = Unit {0}
IsAhead (Some at) now = (patience ≤ at) × (now < at) × (at ≤ now + patience)

-- how a life has ended that the watchdog has ended, or has not
abbrev pub how_of : {X : Type 0} → Bool → Machine X → End
how_of true m = end.Reset
how_of false m = end_of m

abbrev pub last_of : {X : Type 0} → Bool → Machine X → Life X
last_of late m = record { ran = still m; how = how_of late m; by_watchdog = late }

abbrev pub is_spent : End → Bool
is_spent end.Spent = true
is_spent how = false

-- of an activity with so many states left, some have passed, so that none is over, or all, so that one is
abbrev pub IsPart : ℕ → ℕ → ℕ → Type 0
IsPart zero states left = states < left
IsPart (suc more) states left = (more ≡ 0) × (states ≡ left)

module _ {X : Type 0} (f : Further X) (deadline : X → Option ℕ) where
  -- the deadline comes in none of so many states but the first
  pub record IsClearFor (states : ℕ) (m : Machine X) : Type 0 where
    pub few : states ≤ patience
    pub within : (at : ℕ) → deadline m.board.units.further ≡ Some at → m.time + states ≤ at

  -- some states of the present activity have passed, or all of them
  pub record PassesInLife (m : Machine X) (o : Out) (r : Buffer Begun) (result : Result ℕ WriteFault) (n : Machine X) (p : Out) (q : Buffer Begun) : Type 0 where
    pub states : ℕ
    pub passed : Passed f states m o r n p q
    pub few : states ≤ (current m).left
    pub short : (current m).left ≤ 255
    pub clear : IsClearFor states m
    pub part : IfOk result (λ activities. IsPart activities states (current m).left)

  -- so many states of a life have passed, or those to its end, and the activities that began in them are noted; `late` says whether
  -- the watchdog has ended it
  pub record HasLived (states : ℕ) (m : Machine X) (r : Buffer Begun) (late : Bool) (n : Machine X) (q : Buffer Begun) : Type 0 where
    pub by_watchdog : late ≡ (life_for f deadline states m).by_watchdog
    pub how : how_of late n ≡ (life_for f deadline states m).how
    pub machine : n ≡ (life_for f deadline states m).ran.machine
    pub begun : q ≡ buffer (keep_last r.capacity (r.items ++ begun_for f (n.time - m.time) m)) r.capacity
    pub in_time : IsInTime (deadline n.board.units.further) n.time
    pub ran : IfSome n.ended (λ how. HasRun how n.time)
    pub has_run : HasRun (how_of late n) n.time

-- ---- what is kept of the lives so far

abbrev pub past_of : Past → ℕ × Begun
past_of p = (p.life, p.begun)

-- an activity of the life of this number
abbrev pub past_in : ℕ → Begun → Past
past_in number b = record { life = number; begun = b }

-- the life that is debugged, by what is kept of it
abbrev pub seen : {X : Type 0} → DebuggedLife X → InLife X
seen s = record { number = s.number; from = s.from; machine = s.machine.machine; over = s.over; breaks = s.breaks.items; past = map past_of s.past.items; begun = s.begun.items; text = []; pauses = [] }

-- what is kept of a life
abbrev pub kept_of : {X : Type 0} → InLife X → InLife X
kept_of l = record l { past = keep_last 32 l.past; begun = keep_last 33 l.begun; text = []; pauses = [] }

-- the end that is noted, and its line, where a life goes no further
abbrev pub over_by : End → Option End → Option End
over_by end.Spent before = before
over_by how before = Some how

abbrev pub over_text : {X : Type 0} → End → Machine X → List ℕ
over_text end.Spent m = []
over_text how m = line_of (end_line how m)

-- the activities that finished in earlier lives, 32 at most, and those that have begun in this one, 33 at most
pub record IsHeld (past : Buffer Past) (begun : Buffer Begun) : Type 0 where
  pub earlier : past ≡ buffer (keep_last 32 past.items) 32
  pub present : begun ≡ buffer (keep_last 33 begun.items) 33

-- where the life stands
abbrev pub standing : {X : Type 0} → InLife X → InLife X
standing l = says (stand_line l.number l.machine) l

module _ {X : Type 0} {dx : extra.Ghosts X} {dw : extra.Ghosts Watchdog} where
  -- the machine of the life that begins at a state
  pub record IsBorn (made : ℕ → X) (image : List ℕ) (drives : Drives) (from : ℕ) (m : Machine (Pair X Watchdog dx dw)) : Type 0 where
    pub unit : IsWatched (made from) m.board.units.further
    pub machine : m ≡ start image (driven_from from drives) m.board.units.further

  -- a life that a command may be carried out in
  pub record IsReady (s : DebuggedLife (Pair X Watchdog dx dw)) : Type 0 where
    pub held : IsHeld s.past s.begun
    pub from : s.from ≤ max_states
    pub in_time : IsInTime (deadline_of s.machine.machine.board.units.further) s.machine.machine.time
    pub ran : IfSome s.machine.machine.ended (λ how. HasRun how s.machine.machine.time)

  -- What a call has come to is what the definition says, by whatever units new lives are made with, as long as they are made for
  -- the state at which the life begins.
  pub record Goes {A : Type 0} (made : ℕ → X) (next : (ℕ → Pair X Watchdog dx dw) → InLife (Pair X Watchdog dx dw)) (old : Out) (result : Result A LivesFault) (s : DebuggedLife (Pair X Watchdog dx dw)) (new : Out) : Type 0 where
    pub reported : (unit : ℕ → Pair X Watchdog dx dw) → ((from : ℕ) → IsWatched (made from) (unit from)) → IsDone (next unit) old result new
    pub kept : OnOk result ((unit : ℕ → Pair X Watchdog dx dw) → ((from : ℕ) → IsWatched (made from) (unit from)) → seen s ≡ kept_of (next unit))
    pub ready : OnOk result (IsReady s)

  -- the further unit of the life that begins at a state is made for that state, beside a new watchdog
  pub record HasAnswered (f : Further (Pair X Watchdog dx dw)) (made : ℕ → X) (image : List ℕ) (drives : Drives) (most : ℕ) (entries : List MapEntry) (commands : List Command) (old : Out) (result : Result End LivesFault) (new : Out) : Type 0 where
    pub unit : ℕ → Pair X Watchdog dx dw
    pub is_made : (from : ℕ) → IsWatched (made from) (unit from)
    pub answered : IsAnswered (in_lives f deadline_of image drives unit most entries commands) old result new
