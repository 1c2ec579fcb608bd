-- What the deferred units are apart from how often their units were moved (this kit's own).
use Rattle.std.specs.Prelude.{ℕ, ◌+◌}
use Rattle.kc_span.specs.DeferredUnit.{deferred_at}
use Rattle.kc_block_units.specs.Scheduler as scheduled
use Rattle.kc_block_units.specs.declared.scheduler.Scheduler.{Scheduler}

-- each deferred unit with the data of its unit
abbrev pub standing : {X : Type 0} → (X → X) → Scheduler X → scheduled.Scheduler X
standing plain h = record {
  drives = h.stimuli;
  board_registers = h.board_registers;
  due = h.due;
  flag = deferred_at h.flag.at h.flag.unit;
  timer2 = deferred_at h.timer2.at h.timer2.unit.inner;
  hso = deferred_at h.hso.at h.hso.unit.inner;
  hsi = deferred_at h.hsi.at h.hsi.unit.inner;
  further = deferred_at h.further.at (plain h.further.unit);
}

-- how often the four units were moved, together
abbrev pub moves_of : {X : Type 0} → (X → ℕ) → Scheduler X → ℕ
moves_of moved h = h.timer2.unit.moves + h.hso.unit.moves + h.hsi.unit.moves + moved h.further.unit
