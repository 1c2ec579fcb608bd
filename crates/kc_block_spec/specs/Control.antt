-- How the registers choose what reaches Timer 2 and HSI (80C196KC User's Manual, "Timer 2", "High-Speed Input").
use Rattle.std.specs.Prelude.{ℕ, ◌+◌, ◌&&◌, ◌||◌, if◌then◌else◌, Option}
use Rattle.kc_base.specs.Bits.{bit, weight}
use Rattle.kc_base.specs.Pins.{hsi0, hsi1, hsi2, hsi3, t2clk, t2rst, t2ud, t2cap}
use Rattle.kc_timers.specs.declared.T2Control.{T2Control}
use Rattle.kc_timers.specs.declared.T2Inputs.{T2Inputs}
use Rattle.kc_hsi.specs.declared.pins.PinEdges.{PinEdges}
use Rattle.kc_block_spec.specs.declared.board_registers.BoardRegisters.{BoardRegisters}
use Rattle.kc_block_spec.specs.Fired.{resets}

-- how Timer 2 is clocked and reset, at these levels: down where IOC2.1 is 1 and T2UD is high
abbrev pub control_of : BoardRegisters → ℕ → T2Control
control_of board_registers levels = record {
  hsi1 = bit board_registers.ioc0 7;
  internal = bit board_registers.ioc3 0;
  fast = bit board_registers.ioc2 0;
  down = bit board_registers.ioc2 1 && bit levels t2ud;
  reset_on = bit board_registers.ioc0 3;
  reset_hsi0 = bit board_registers.ioc0 5;
}

-- what reaches it: either edge of T2CLK or HSI1, a rise of T2RST or HSI0 or channel 14, a rise of T2CAP
abbrev pub timer2_inputs : T2Control → ℕ → ℕ → Option ℕ → T2Inputs
timer2_inputs control edges rise fired = record {
  clock = if control.hsi1 then bit edges hsi1 else bit edges t2clk;
  reset = (control.reset_on && (if control.reset_hsi0 then bit rise hsi0 else bit rise t2rst)) || resets fired;
  capture = bit rise t2cap;
}

-- HSI0 to HSI3 as the low four bits
abbrev pub hsi_bits : ℕ → ℕ
hsi_bits pins = weight (bit pins hsi0) 1 + weight (bit pins hsi1) 2 + weight (bit pins hsi2) 4 + weight (bit pins hsi3) 8

-- the pins that IOC0 enables for HSI
abbrev pub hsi_enabled : ℕ → ℕ
hsi_enabled ioc0 = weight (bit ioc0 0) 1 + weight (bit ioc0 2) 2 + weight (bit ioc0 4) 4 + weight (bit ioc0 6) 8

abbrev pub hsi_edges : BoardRegisters → ℕ → ℕ → PinEdges
hsi_edges board_registers rise fall = record { rising = hsi_bits rise; falling = hsi_bits fall; enabled = hsi_enabled board_registers.ioc0 }
