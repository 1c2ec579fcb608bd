-- What is known of a sink that fails (this kit's own).
use Rattle.std.specs.Prelude.{◌≡◌, Bool, true, false, Result, OnOk, OnErr}
use Rattle.kc_trace.specs.declared.trace.WriteFault.{WriteFault}

-- a call answers whether the sink has failed: a fault where it has, and nothing else
pub record ReportsFault {A : Type 0} (result : Result A WriteFault) (is_failed : Bool) : Type 0 where
  pub written : OnOk result (is_failed ≡ false)
  pub failed : OnErr result (is_failed ≡ true)
