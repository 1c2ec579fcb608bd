-- The slots after an event: those of touched units rescheduled, the others as they were (this kit's own).
use Rattle.std.specs.Prelude.{◌≡◌, ℕ, ◌≤◌, true, false}
use Rattle.kc_due.specs.Due.{Times, at_slot}
use Rattle.kc_stim.specs.Drives.{IsNextEdge}
use Rattle.kc_hsi.specs.Input.{hsi_rule}
use Rattle.kc_extra.specs.Further.{Further}
use Rattle.kc_block_units.specs.Scheduler.{Scheduler, flag_goes, timer2_goes, hso_goes, further_goes, levels_ahead, wire_slot}
use Rattle.kc_block_units.specs.Events.{AsksWhere}
use Rattle.kc_block_tick.specs.declared.asks.Touched.{Touched}

pub record AreAskedWhere {X : Type 0} (f : Further X) (touched : Touched) (next : ℕ) (old : Times) (k : Scheduler X) : Type 0 where
  pub timer2 : AsksWhere touched.timer2 (timer2_goes k) next k.timer2.kept (at_slot old 0) (at_slot k.due 0)
  pub hso : AsksWhere touched.hso (hso_goes k) next k.hso.kept (at_slot old 1) (at_slot k.due 1)
  pub hsi : AsksWhere touched.hsi hsi_rule next k.hsi.kept (at_slot old 2) (at_slot k.due 2)
  pub further : AsksWhere touched.further (further_goes f) next k.further.kept (at_slot old 3) (at_slot k.due 3)
  pub flag : AsksWhere touched.flag (flag_goes k) next k.flag.kept (at_slot old 4) (at_slot k.due 4)
  pub next_edge : touched.stimuli ≡ true → IsNextEdge k.drives.stimuli next (at_slot k.due 5)
  pub same_edge : touched.stimuli ≡ false → at_slot k.due 5 ≡ at_slot old 5
  pub wires : at_slot k.due 6 ≡ wire_slot next (levels_ahead k next) k.board_registers.levels
  pub spare : (slot : ℕ) → 7 ≤ slot → at_slot k.due slot ≡ at_slot old slot
