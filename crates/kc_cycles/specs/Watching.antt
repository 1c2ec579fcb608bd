-- The watchdog (80C196KC User's Manual, "Watchdog Timer": it is fed by 1EH and then E1H, written at its address, and resets
-- the chip when 65,536 states have gone by without that; that it begins with the first feeding is this kit's own).
use Rattle.std.specs.Prelude.{ℕ, ◌+◌, ◌==◌, Bool, false, ◌&&◌, if◌then◌else◌, Some, None, []}
use Rattle.kc_extra.specs.declared.outcome.ExtraOut.{ExtraOut}
use Rattle.kc_extra.specs.Further.{Further}
use Rattle.kc_cycles.specs.declared.watchdog.Watchdog.{Watchdog}

-- how long a feeding lasts
abbrev pub patience : ℕ
patience = 65536

-- WATCHDOG, in window 0
abbrev pub is_watchdog : ℕ → ℕ → Bool
is_watchdog window sfr = (window == 0) && (sfr == 0x0A)

abbrev pub new_watchdog : Watchdog
new_watchdog = record { half_fed = false; deadline = None; idle = record { moves = 0 } }

-- a write of 1EH half feeds it; one of E1H directly after that feeds it
abbrev pub fed : ℕ → ℕ → Watchdog → Watchdog
fed value t d = record d {
  half_fed = (value == 0x1E);
  deadline = if d.half_fed && (value == 0xE1) then Some (t + patience) else d.deadline;
}

abbrev pub silent : ExtraOut
silent = record { raised = record { 0 = 0 }; moved = [] }

abbrev pub watchdog_further : Further Watchdog
watchdog_further = record {
  step = λ t levels edges d. d;
  out = λ t levels edges d. silent;
  rest = λ t d. d;
  rest_out = λ t d. silent;
  readable = λ window sfr. false;
  answer = λ window sfr t d. None;
  after_read = λ window sfr t d. d;
  writable = λ window sfr. is_watchdog window sfr;
  after_write = λ window sfr value t d. if is_watchdog window sfr then fed value t d else d;
  started = λ t d. d;
}
