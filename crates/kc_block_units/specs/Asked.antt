-- All due states, as they are asked in one state (this kit's own).
use Rattle.std.specs.Prelude.{◌≡◌, ℕ, ◌<◌, ◌≤◌, None}
use Rattle.kc_span.specs.Span.{IsDue}
use Rattle.kc_due.specs.Due.{at_slot}
use Rattle.kc_stim.specs.Drives.{IsNextEdge}
use Rattle.kc_stim.specs.Proper.{AreProper}
use Rattle.kc_hsi.specs.Input.{hsi_rule}
use Rattle.kc_extra.specs.Further.{Further}
use Rattle.kc_block_units.specs.Scheduler.{Scheduler, flag_goes, timer2_goes, hso_goes, further_goes, levels_ahead, wire_slot}

pub record AreAsked {X : Type 0} (f : Further X) (h : Scheduler X) (now : ℕ) : Type 0 where
  pub timer2 : IsDue (timer2_goes h) now h.timer2.kept (at_slot h.due 0)
  pub hso : IsDue (hso_goes h) now h.hso.kept (at_slot h.due 1)
  pub hsi : IsDue hsi_rule now h.hsi.kept (at_slot h.due 2)
  pub further : IsDue (further_goes f) now h.further.kept (at_slot h.due 3)
  pub flag : IsDue (flag_goes h) now h.flag.kept (at_slot h.due 4)
  pub stimuli : IsNextEdge h.drives.stimuli now (at_slot h.due 5)
  pub wires : at_slot h.due 6 ≡ wire_slot now (levels_ahead h now) h.board_registers.levels
  pub proper : AreProper h.drives
  pub spare : (slot : ℕ) → 7 ≤ slot → slot < 16 → at_slot h.due slot ≡ None
