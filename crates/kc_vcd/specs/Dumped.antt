-- What is answered where the run whose trace a source gives is written as a dump (this kit's own).
use Rattle.std.specs.Prelude.{◌≡◌, ℕ, Option, Result, List}
use Rattle.std.specs.Global.{Vec}
use Rattle.kc_stim.specs.Drives.{Drives}
use Rattle.kc_convert.specs.declared.sample.Sample.{Sample}
use Rattle.kc_events.specs.declared.line.Line.{Line}
use Rattle.kc_events.specs.declared.lives.LivesFault.{LivesFault}
use Rattle.kc_events.specs.Steps.{steps_of}
use Rattle.kc_events.specs.Reporting.{IsRunAnswer}
use Rattle.kc_vcd.specs.Dump.{shown_of, dump_of}

-- the dump of the run of these lines
abbrev pub IsDumpOf : ℕ → Drives → List Sample → Vec ℕ → List Line → Type 0
IsDumpOf clock drives samples dump lines = dump.items ≡ dump_of (shown_of clock drives samples) (steps_of drives lines)

-- of a text, where the source reports it: the dump of its run, or the first line that no board prints there
abbrev pub IsDumped : ℕ → Drives → List Sample → Option (List ℕ) → Result (Vec ℕ) LivesFault → Type 0
IsDumped clock drives samples left result = IsRunAnswer (IsDumpOf clock drives samples) left result
