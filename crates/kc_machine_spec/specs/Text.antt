-- What is printed of a run (this kit's own).
use Rattle.std.specs.Prelude.{ℕ, zero, suc, ◌+◌, ◌-◌, ◌*◌, ◌%◌, List, [], ◌∷◌, ◌++◌, take, drop, replicate, ◌<◌}
use Rattle.kc_trace.specs.declared.record.Record.{Record}
use Rattle.kc_trace.specs.declared.record.Record.TheVariants.{Stopped, Pc, Psw, Wsr, Registers}
use Rattle.kc_trace.specs.Text.{text_of}
use Rattle.kc_machine_spec.specs.declared.doing.End.{End}
use Rattle.kc_machine_spec.specs.declared.doing.End.TheVariants as end
use Rattle.kc_machine_spec.specs.Machine.{Machine, Stepped}
use Rattle.kc_machine_spec.specs.Run.{end_of}

-- the number of an end
abbrev pub end_number : End → ℕ
end_number end.Spent = 0
end_number end.Powerdown = 1
end_number end.Reset = 2
end_number (end.Undefined what access) = 3

-- the state that is printed of an end
abbrev pub end_state : End → ℕ → ℕ
end_state end.Spent now = now
end_state (end.Undefined what access) now = what.at
end_state _ now = now - 1

-- a row of the register file as it is shown: the special function registers as 0
abbrev pub shown_row : ℕ → List ℕ → List ℕ
shown_row zero memory = replicate 0x18 0 ++ take 8 (drop 0x18 memory)
shown_row (suc n) memory = take 32 (drop (32 * suc n) memory)

-- the first rows of the register file
unfoldable pub register_rows : ℕ → List ℕ → List Record
register_rows zero memory = []
register_rows (suc n) memory = register_rows n memory ++ Registers (32 * n) (shown_row n memory) ∷ []

-- what is printed of the end and of the processor
abbrev pub processor_lines : {X : Type 0} → End → Machine X → List Record
processor_lines how machine =
    Stopped (end_state how machine.time) (end_number how)
    ∷ Pc machine.cpu.pc
    ∷ Psw (256 * machine.cpu.psw_high + machine.board.units.board_registers.requests.mask % 256)
    ∷ Wsr machine.board.units.board_registers.wsr
    ∷ []

-- what is printed at the end
abbrev pub finals : {X : Type 0} → End → Machine X → List Record
finals how machine = processor_lines how machine ++ register_rows 16 machine.board.memory

-- a machine that was reset or powered down has run
abbrev pub HasRun : End → ℕ → Type 0
HasRun end.Powerdown time = 0 < time
HasRun end.Reset time = 0 < time
HasRun _ time = Unit {0}

-- the whole text of a run
abbrev pub trace_of : {X : Type 0} → Stepped X → List ℕ
trace_of ran = text_of (ran.records ++ finals (end_of ran.machine) ran.machine)
