-- How many accesses the transfer server makes (this kit's own).
use Rattle.std.specs.Prelude.{ℕ}
use Rattle.kc_exec_spec.specs.Accesses.{AtMost}
use Rattle.kc_pts.specs.declared.cycle.Cycle.{Cycle}
use Rattle.kc_pts.specs.Cycles.{set_up, served}

abbrev pub SetupAccesses : Type 0
SetupAccesses = (n : ℕ) → AtMost 6 (set_up n)

abbrev pub TransferAccesses : Type 0
TransferAccesses = (cycle : Cycle) → AtMost 8 (served cycle)
