-- What a session keeps of a script (this kit's own).
use Rattle.std.specs.Prelude.{[]}
use Rattle.kc_machine_spec.specs.Machine.{Machine}
use Rattle.kc_debug.specs.declared.session.Sitting.{Sitting}
use Rattle.kc_debug.specs.Transcript.{Debugged}

-- a machine with the breakpoints and the last activities that are kept
abbrev pub seen : {X : Type 0} → Machine X → Sitting → Debugged X
seen m s = record { machine = m; breaks = s.breaks.items; begun = s.begun.items; text = [] }
