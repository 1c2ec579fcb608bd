-- What writes of special function registers do (80C196KC User's Manual, "Special Function Registers", "I/O Control Registers").
use Rattle.std.specs.Prelude.{ℕ, ◌+◌, ◌*◌, ◌/◌, ◌%◌, ◌&&◌, Option, Some, None, Result, Ok, Err, if◌then◌else◌, bit_and}
use Rattle.kc_base.specs.Bits.{bit}
use Rattle.kc_base.specs.declared.types.Kind.{Kind}
use Rattle.kc_base.specs.declared.types.Kind.TheVariants.{BadWindow, FastTimer2}
use Rattle.kc_exec_spec.specs.Window.{is_wsr}
use Rattle.kc_timers.specs.T2.{T2}
use Rattle.kc_hso.specs.Cam.{Cam, load_refusal, with_load, emptied, has_timer2_of}
use Rattle.kc_intc.specs.declared.requests.Requests.{Requests}
use Rattle.kc_block_spec.specs.declared.board_registers.BoardRegisters.{BoardRegisters}
use Rattle.kc_block_spec.specs.declared.registers.WritableByte.{WritableByte}
use Rattle.kc_block_spec.specs.declared.registers.WritableByte.TheVariants.{Zeros, IntMask, IntMask1, IntPend, IntPend1, Wsr, HsiMode, HsoCommand, Port1, Port2, Ioc0, Ioc1, Ioc2, Ioc3}
use Rattle.kc_block_spec.specs.declared.registers.WritableWord.{WritableWord}
use Rattle.kc_block_spec.specs.declared.registers.WritableWord.TheVariants.{HsoTime, Timer2, PtsSelect, PtsService}
use Rattle.kc_block_spec.specs.Units.{Units}

-- a word with another low byte, and with another high byte
abbrev pub with_low : ℕ → ℕ → ℕ
with_low word n = 256 * (word / 256) + n

abbrev pub with_high : ℕ → ℕ → ℕ
with_high word n = word % 256 + 256 * n

-- The data beside the units after a byte write. IOC0 does not keep bit 1, IOC2 not bit 7; port 2 keeps bits 0, 5, 6 and 7.
abbrev pub board_registers_with : BoardRegisters → WritableByte → ℕ → BoardRegisters
board_registers_with s IntMask n = record s { requests = record s.requests { mask = with_low s.requests.mask n } }
board_registers_with s IntMask1 n = record s { requests = record s.requests { mask = with_high s.requests.mask n } }
board_registers_with s IntPend n = record s { requests = record s.requests { pending = with_low s.requests.pending n } }
board_registers_with s IntPend1 n = record s { requests = record s.requests { pending = with_high s.requests.pending n } }
board_registers_with s Wsr n = record s { wsr = n }
board_registers_with s Port1 n = record s { port1 = n }
board_registers_with s Port2 n = record s { port2 = bit_and n 0xE1 }
board_registers_with s Ioc0 n = record s { ioc0 = bit_and n 0xFD }
board_registers_with s Ioc1 n = record s { ioc1 = n }
board_registers_with s Ioc2 n = record s { ioc2 = bit_and n 0x7F }
board_registers_with s Ioc3 n = record s { ioc3 = n }
board_registers_with s Zeros n = s
board_registers_with s HsiMode n = s
board_registers_with s HsoCommand n = s

-- bit 1 of a write of IOC0 resets Timer 2
abbrev pub reset_by : ℕ → T2 → T2
reset_by n timer2 = if bit n 1 then record timer2 { value = 0 } else timer2

-- bit 7 of a write of IOC2 empties HSO's entries and holding register
abbrev pub emptied_by : ℕ → Cam → Cam
emptied_by n hso = if bit n 7 then emptied hso else hso

-- the units with other data beside them
abbrev pub with_board_registers : {X : Type 0} → Units X → BoardRegisters → Units X
with_board_registers u s = record u { board_registers = s }

abbrev pub with_requests : {X : Type 0} → Units X → Requests → Units X
with_requests u r = with_board_registers u (record u.board_registers { requests = r })

-- WSR takes the values of the profile alone; IOC2.0 is not set while an entry on Timer 2 stands, which is asked first
abbrev pub with_byte : {X : Type 0} → Units X → WritableByte → ℕ → Result (Units X) Kind
with_byte u HsiMode n = Ok (record u { hsi = record u.hsi { mode = n } })
with_byte u HsoCommand n = Ok (record u { hso = record u.hso { command = n } })
with_byte u Ioc0 n = Ok (record u { board_registers = board_registers_with u.board_registers Ioc0 n; timer2 = reset_by n u.timer2 })
with_byte u Ioc2 n =
    if bit n 0 && has_timer2_of u.hso then Err FastTimer2
    else Ok (record u { board_registers = board_registers_with u.board_registers Ioc2 n; hso = emptied_by n u.hso })
with_byte u Wsr n = if is_wsr n then Ok (record u { board_registers = board_registers_with u.board_registers Wsr n }) else Err BadWindow
with_byte u r n = Ok (record u { board_registers = board_registers_with u.board_registers r n })

-- HSO_TIME loads the holding register, or is refused
abbrev pub loaded_unless : {X : Type 0} → Units X → ℕ → Option Kind → Result (Units X) Kind
loaded_unless u n (Some kind) = Err kind
loaded_unless u n None = Ok (record u { hso = with_load n u.hso })

abbrev pub with_word : {X : Type 0} → Units X → WritableWord → ℕ → Result (Units X) Kind
with_word u HsoTime n = loaded_unless u n (load_refusal u.hso (bit u.board_registers.ioc2 0))
with_word u Timer2 n = Ok (record u { timer2 = record u.timer2 { value = n } })
with_word u PtsSelect n = Ok (record u { board_registers = record u.board_registers { requests = record u.board_registers.requests { select = n } } })
with_word u PtsService n = Ok (record u { board_registers = record u.board_registers { requests = record u.board_registers.requests { service = n } } })
