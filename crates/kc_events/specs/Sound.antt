-- Which records a run may have (80C196KC User's Manual, "Interrupts", "Peripheral Transaction Server"; the bound of states is this
-- kit's own).
use Rattle.std.specs.Prelude.{◌≡◌, ◌<◌, ◌≤◌, length}
use Rattle.kc_base.specs.Limits.{max_states, entry_count, transfer_count}
use Rattle.kc_base.specs.Bytes.{IsBytes}
use Rattle.kc_trace.specs.declared.record.Record.{Record}
use Rattle.kc_trace.specs.declared.record.Record.TheVariants.{Pin, Entered, Served, Undef, Stopped, Pc, Psw, Wsr, Registers}
use Rattle.kc_trace.specs.Printable.{CanPrint}

-- The numbers of a record are those of a run: states up to 10^15, requests that may be entered, requests that the transfer server may
-- serve, eight bits, sixteen bits, 32 bytes.
abbrev pub HasWidths : Record → Type 0
HasWidths (Pin at edge) = at ≤ max_states
HasWidths (Entered at vector back) = (at ≤ max_states) × (vector < entry_count) × (back < 65536)
HasWidths (Served at vector mode count) = (at ≤ max_states) × (vector < transfer_count) × (count < 256)
HasWidths (Undef what) = (what.at ≤ max_states) × (what.addr < 65536)
HasWidths (Stopped at how) = at ≤ max_states
HasWidths (Pc value) = value < 65536
HasWidths (Psw value) = value < 65536
HasWidths (Wsr value) = value < 256
HasWidths (Registers base bytes) = (length bytes ≡ 32) × IsBytes bytes

-- a record that has a line, and that a run may have
abbrev pub IsSound : Record → Type 0
IsSound item = CanPrint item × HasWidths item
