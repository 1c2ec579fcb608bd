-- What special function registers read, and what a read takes away (80C196KC User's Manual, "Special Function Registers", "I/O
-- Ports", "I/O Status Registers").
use Rattle.std.specs.Prelude.{ℕ, ◌+◌, ◌/◌, ◌%◌, ◌^◌, false, ◌&&◌, bit_and}
use Rattle.kc_base.specs.Pins.{t2clk, t2rst, extint, t2ud, t2cap}
use Rattle.kc_base.specs.Bits.{bit, weight}
use Rattle.kc_span.specs.Timer1.{timer1_of}
use Rattle.kc_hso.specs.Cam.{ios0_of}
use Rattle.kc_hsi.specs.Input.{status_of, flags_of}
use Rattle.kc_block_spec.specs.declared.board_registers.BoardRegisters.{BoardRegisters}
use Rattle.kc_block_spec.specs.declared.registers.ReadableByte.{ReadableByte}
use Rattle.kc_block_spec.specs.declared.registers.ReadableByte.TheVariants.{Zeros, IntMask, IntMask1, IntPend, IntPend1, Wsr, HsiStatus, Port0, Port1, Port2, Ios0, Ios1, Ios2, Ioc3}
use Rattle.kc_block_spec.specs.declared.registers.ReadableWord.{ReadableWord}
use Rattle.kc_block_spec.specs.declared.registers.ReadableWord.TheVariants.{HsiTime, Timer1, Timer2, T2Capture, PtsSelect, PtsService}
use Rattle.kc_block_spec.specs.Units.{Units}
use Rattle.kc_block_spec.specs.Control.{hsi_bits}

-- the levels of P00 to P07, and of P10 to P17
abbrev pub port0_levels : ℕ → ℕ
port0_levels levels = (levels / 2 ^ 28) % 256

abbrev pub port1_levels : ℕ → ℕ
port1_levels levels = (levels / 2 ^ 6) % 256

-- port 2: its latch in bits 0 and 5, EXTINT, T2CLK and T2RST in bits 2 to 4, latch and level of T2UD and T2CAP in bits 6 and 7
abbrev pub port2_read : BoardRegisters → ℕ
port2_read s =
    weight (bit s.port2 0) 1
    + weight (bit s.levels extint) 4 + weight (bit s.levels t2clk) 8 + weight (bit s.levels t2rst) 16
    + weight (bit s.port2 5) 32
    + weight (bit s.port2 6 && bit s.levels t2ud) 64 + weight (bit s.port2 7 && bit s.levels t2cap) 128

abbrev pub byte_value : {X : Type 0} → Units X → ReadableByte → ℕ
byte_value u Zeros = 0
byte_value u IntMask = u.board_registers.requests.mask % 256
byte_value u IntMask1 = u.board_registers.requests.mask / 256
byte_value u IntPend = u.board_registers.requests.pending % 256
byte_value u IntPend1 = u.board_registers.requests.pending / 256
byte_value u Wsr = u.board_registers.wsr
byte_value u HsiStatus = status_of u.hsi.held.events (hsi_bits u.board_registers.levels)
byte_value u Port0 = port0_levels u.board_registers.levels
byte_value u Port1 = bit_and u.board_registers.port1 (port1_levels u.board_registers.levels)
byte_value u Port2 = port2_read u.board_registers
byte_value u Ios0 = ios0_of u.hso
byte_value u Ios1 = u.board_registers.ios1 % 32 + weight u.overflowed 32 + flags_of u.hsi
byte_value u Ios2 = u.board_registers.ios2
byte_value u Ioc3 = u.board_registers.ioc3

-- in state t
abbrev pub word_value : {X : Type 0} → ℕ → Units X → ReadableWord → ℕ
word_value t u HsiTime = u.hsi.held.time
word_value t u Timer1 = timer1_of t
word_value t u Timer2 = u.timer2.value
word_value t u T2Capture = u.timer2.captured
word_value t u PtsSelect = u.board_registers.requests.select
word_value t u PtsService = u.board_registers.requests.service

-- a read of IOS1 clears its bits 0 to 5, and a read of IOS2 all of it
abbrev pub after_byte : {X : Type 0} → Units X → ReadableByte → Units X
after_byte u Ios1 = record u { board_registers = record u.board_registers { ios1 = 0 }; overflowed = false }
after_byte u Ios2 = record u { board_registers = record u.board_registers { ios2 = 0 } }
after_byte u _ = u

-- a read of HSI_TIME empties the holding register
abbrev pub after_word : {X : Type 0} → Units X → ReadableWord → Units X
after_word u HsiTime = record u { hsi = record u.hsi { loaded = false } }
after_word u _ = u
