-- The touch of a script, and where its machine stands when the sink has failed (this kit's own).
use Rattle.std.specs.Prelude.{◌≡◌, ℕ, ◌+◌, ◌≤◌, ◌⊎◌, false, true, List, [], ◌∷◌, ◌++◌}
use Rattle.std.specs.List.{list_any}
use Rattle.kc_extra.specs.Further.{Further}
use Rattle.kc_trace.specs.Out.{Out, Puts, Prints}
use Rattle.kc_trace.specs.Text.{text_of}
use Rattle.kc_machine_spec.specs.Machine.{Machine}
use Rattle.kc_machine_spec.specs.Run.{run_for}
use Rattle.kc_debug_script.specs.declared.command.Command.{Command}
use Rattle.kc_debug_script.specs.declared.command.Command.TheVariants.{Step, Go, Show, Quit}
use Rattle.kc_debug_script.specs.declared.line_map.MapEntry.{MapEntry}
use Rattle.kc_debug.specs.Stops.{activity_states, states_at_once, states_of_activities, states_of_run}
use Rattle.kc_debug.specs.Transcript.{Debugged, after_command, quits, transcript}

-- how many bytes a command shows
abbrev pub bytes_of : Command → ℕ
bytes_of (Show from count) = count
bytes_of _ = 0

-- how many bytes commands show, up to the first that ends the script
unfoldable pub bytes_shown : List Command → ℕ
bytes_shown [] = 0
bytes_shown (Quit ∷ commands) = 0
bytes_shown (command ∷ commands) = bytes_of command + bytes_shown commands

-- how many of the states of a command pass at once
abbrev pub at_once_in : {X : Type 0} → Command → Machine X → ℕ
at_once_in (Go until) = states_at_once until
at_once_in _ = activity_states

module _ {X : Type 0} (f : Further X) where
  -- how many states a command lets the machine go on
  abbrev pub states_of : Command → Debugged X → ℕ
  states_of (Step count) d = states_of_activities f count d.machine
  states_of (Go until) d = states_of_run f d.breaks until d.machine
  states_of _ d = 0

  -- the touch of a command is that of its states
  abbrev pub touch_in : Command → Debugged X → ℕ
  touch_in command d = (run_for f (states_of command d) d.machine).touch

  -- The sink has failed in the lines of states that pass at once, as many as a machine says: those of the states before them
  -- were written whole, and of their own a prefix. The machine stands behind them, within so many states.
  pub record FailsWithin (at_once : Machine X → ℕ) (most : ℕ) (m : Machine X) (o : Out) (n : Machine X) (p : Out) : Type 0 where
    -- how many states have passed before them, the machine there, and the trace
    pub before : ℕ
    pub there : Machine X
    pub stands : there ≡ (run_for f before m).machine
    pub mid : Out
    pub whole : Prints o (run_for f before m).records mid
    pub unbroken : mid.failed ≡ false
    pub part : Prints mid (run_for f (at_once there) there).records p
    pub failed : p.failed ≡ true
    pub few : before + at_once there ≤ most
    pub machine : n ≡ (run_for f (at_once there) there).machine

  -- The sink has failed in what is said behind so many states: their own lines were written whole, and of the rest a prefix. The
  -- machine stands behind all of them.
  pub record FailsBehind (states : ℕ) (said : List ℕ) (m : Machine X) (o : Out) (n : Machine X) (p : Out) : Type 0 where
    pub mid : Out
    pub whole : Prints o (run_for f states m).records mid
    pub unbroken : mid.failed ≡ false
    pub rest : List ℕ
    pub says : said ≡ text_of (run_for f states m).records ++ rest
    pub part : Puts mid rest p
    pub failed : p.failed ≡ true
    pub machine : n ≡ (run_for f states m).machine

  -- the sink has failed in the lines of a command's states, or in what the command says behind them
  abbrev pub FailsIn : (Machine X → ℕ) → ℕ → List ℕ → Machine X → Out → Machine X → Out → Type 0
  FailsIn at_once states said m o n p = FailsWithin at_once states m o n p ⊎ FailsBehind states said m o n p

module _ {X : Type 0} (f : Further X) (entries : List MapEntry) where
  -- the touch of commands, up to the first that ends the script
  unfoldable pub touch_of : List Command → Debugged X → ℕ
  touch_of [] d = 0
  touch_of (Quit ∷ commands) d = 0
  touch_of (command ∷ commands) d = touch_in f command d + touch_of commands (after_command f entries command d)

  -- The sink has failed in what a command prints: all that the commands before it print was written, and a prefix of its own.
  -- The machine stands at the end of the activity, or of the idle state, in whose lines that was.
  pub record StandsIn (commands : List Command) (m : Machine X) (o : Out) (n : Machine X) (p : Out) : Type 0 where
    pub before : List Command
    pub command : Command
    pub rest : List Command
    pub all : commands ≡ before ++ command ∷ rest
    pub goes_on : list_any quits (before ++ command ∷ []) ≡ false
    -- the trace where the command begins, and what the command prints
    pub mid : Out
    pub whole : Puts o (transcript f entries before m).text mid
    pub unbroken : mid.failed ≡ false
    pub said : List ℕ
    pub says : (after_command f entries command (transcript f entries before m)).text ≡ (transcript f entries before m).text ++ said
    pub fails : FailsIn f (at_once_in command) (states_of f command (transcript f entries before m)) said (transcript f entries before m).machine mid n p
