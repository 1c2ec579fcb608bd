-- What the accesses of both masters see and change, and how it goes on by itself (80C196KC User's Manual, "Memory Map",
-- "Interrupts").
use Rattle.std.specs.Prelude.{ℕ, ◌+◌, ◌*◌, ◌/◌, ◌%◌, List, map, slice_index}
use Rattle.kc_base.specs.declared.types.Edge.{Edge}
use Rattle.kc_exec_spec.specs.declared.access.Masks.{Masks}
use Rattle.kc_extra.specs.Further.{Further}
use Rattle.kc_trace.specs.declared.record.Record.{Record}
use Rattle.kc_trace.specs.declared.record.Record.TheVariants.{Pin}
use Rattle.kc_block_spec.specs.Units.{Units}
use Rattle.kc_block_spec.specs.Touch.{in_state, edges_of}
use Rattle.kc_block_spec.specs.Writing.{with_board_registers}

-- the units, and the 65,536 bytes of memory, of which those below 0018H are never seen
pub record Board (X : Type 0) : Type 0 where
  pub units : Units X
  pub memory : List ℕ

-- the registers of the units that belong to the processor's state
abbrev pub masks_of : {X : Type 0} → Units X → Masks
masks_of u = record { int_mask = u.board_registers.requests.mask % 256; int_mask1 = u.board_registers.requests.mask / 256; wsr = u.board_registers.wsr }

abbrev pub with_masks : {X : Type 0} → Units X → Masks → Units X
with_masks u m = with_board_registers u (record u.board_registers { requests = record u.board_registers.requests { mask = m.int_mask + 256 * m.int_mask1 }; wsr = m.wsr })

-- edges, each with its state, as they are printed
abbrev pub pin_record : ℕ × Edge → Record
pin_record edge = Pin edge.0 edge.1

abbrev pub pin_records : List (ℕ × Edge) → List Record
pin_records edges = map pin_record edges

-- the edges that came in a state
abbrev pub pins : ℕ → List Edge → List Record
pins t edges = pin_records (in_state t edges)

-- the edges of so many Ticks from a state on, in order
abbrev pub edges_in : {X : Type 0} → Further X → ℕ → ℕ → Units X → List Record
edges_in f from n u = pin_records (edges_of f from n u)

-- the word at an address, low byte first
abbrev pub word_at : List ℕ → ℕ → ℕ
word_at memory addr = slice_index memory addr + 256 * slice_index memory (addr + 1)
