-- The watchdog keeps the laws of further units.
use Rattle.std.proofs.Common.{◌≡◌, ℕ, false, refl}
use Rattle.std.specs.Prelude.{if◌then◌else◌}
use Rattle.kc_cycles.specs.declared.watchdog.Watchdog.{Watchdog}
use Rattle.kc_cycles.specs.Watching.{is_watchdog, fed}

pub not_written : (w s v t : ℕ) (d : Watchdog) → is_watchdog w s ≡ false → (if is_watchdog w s then fed v t d else d) ≡ d
not_written w s v t d none = rw none refl
