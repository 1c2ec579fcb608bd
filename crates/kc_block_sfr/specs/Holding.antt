-- When an entry of HSO fires (80C196KC User's Manual, "High Speed Output Unit"; which slot is looked at in which state is this kit's
-- own).
use Rattle.std.specs.Prelude.{ℕ, false, Option, None, slice_index_or}
use Rattle.kc_timers.specs.declared.T2View.{T2View}
use Rattle.kc_timers.specs.T2.{view_of}
use Rattle.kc_hso.specs.declared.cam.Entry.{Entry}
use Rattle.kc_hso.specs.Visits.{IsSlotDue, due_of_slot}
use Rattle.kc_block_spec.specs.Control.{control_of}
use Rattle.kc_block_spec.specs.Units.{Units}

module _ {X : Type 0} (u : Units X) where
  -- how Timer 2 goes on by its inner clock alone: it stands where edges clock it
  abbrev pub timer2_view : T2View
  timer2_view = view_of (control_of u.board_registers u.board_registers.levels) u.timer2

  abbrev pub entry_in : ℕ → Option Entry
  entry_in slot = slice_index_or u.hso.slots slot None

  -- the least state from a state on in which the entry of a slot fires, or none, as long as nothing is written, and no other entry
  -- changes Timer 2
  abbrev pub IsEntryDue : ℕ → ℕ → Option ℕ → Type 0
  IsEntryDue now slot due = IsSlotDue timer2_view now slot (entry_in slot) false due

  -- the same, as it is found
  abbrev pub entry_due : ℕ → ℕ → Option ℕ
  entry_due now slot = due_of_slot timer2_view now slot (entry_in slot)
