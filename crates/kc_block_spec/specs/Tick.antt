-- All units of the board in one state time (80C196KC User's Manual, "Peripherals", "Interrupts"; the order inside a state
-- is this kit's own: each unit sees the others as the state began, but for a reset of Timer 2 by channel 14, and a start of
-- the further unit by channel 15 comes after its Tick).
use Rattle.std.specs.Prelude.{ℕ, ◌+◌, ◌%◌, ◌^◌, ◌==◌, Bool, ◌&&◌, ◌||◌, if◌then◌else◌, Option, ◌++◌, bit_and, bit_or, bit_xor}
use Rattle.kc_base.specs.Pins.{hsi0, extint, nmi, p07}
use Rattle.kc_base.specs.Bits.{bit}
use Rattle.kc_timers.specs.declared.T2Control.{T2Control}
use Rattle.kc_timers.specs.declared.T2Inputs.{T2Inputs}
use Rattle.kc_timers.specs.declared.T2Out.{T2Out}
use Rattle.kc_timers.specs.T2 as t2
use Rattle.kc_hso.specs.Cam as cam
use Rattle.kc_hsi.specs.declared.hsi.HsiOut.{HsiOut}
use Rattle.kc_hsi.specs.declared.pins.PinEdges.{PinEdges}
use Rattle.kc_hsi.specs.Input as hsi
use Rattle.kc_extra.specs.declared.outcome.ExtraOut.{ExtraOut}
use Rattle.kc_extra.specs.Further.{Further}
use Rattle.kc_block_spec.specs.declared.board_registers.BoardRegisters.{BoardRegisters}
use Rattle.kc_block_spec.specs.Units.{Units, Ticked}
use Rattle.kc_block_spec.specs.Levels.{printed, levels_at, edges_between}
use Rattle.kc_block_spec.specs.Fired.{fired_ios1, fired_ios2, fired_request, starts}
use Rattle.kc_block_spec.specs.Control.{control_of, timer2_inputs, hsi_edges}

-- Timer 1 passes from FFFFH to 0 at the end of these states
abbrev pub passes : ℕ → Bool
passes t = (t + 1) % 0x80000 == 0

-- the edges of the inputs, those that rise, and those that fall
abbrev pub edges_at : {X : Type 0} → ℕ → Units X → ℕ
edges_at t u = bit_xor (levels_at t u) u.board_registers.levels

abbrev pub rises_at : {X : Type 0} → ℕ → Units X → ℕ
rises_at t u = bit_and (edges_at t u) (levels_at t u)

abbrev pub falls_at : {X : Type 0} → ℕ → Units X → ℕ
falls_at t u = bit_and (edges_at t u) u.board_registers.levels

-- what each unit is given, and gives
abbrev pub fired_at : {X : Type 0} → ℕ → Units X → Option ℕ
fired_at t u = (cam.out_of t u.timer2.value u.hso).command

abbrev pub control_at : {X : Type 0} → ℕ → Units X → T2Control
control_at t u = control_of u.board_registers (levels_at t u)

abbrev pub timer2_inputs_at : {X : Type 0} → ℕ → Units X → T2Inputs
timer2_inputs_at t u = timer2_inputs (control_at t u) (edges_at t u) (rises_at t u) (fired_at t u)

abbrev pub timer2_out_at : {X : Type 0} → ℕ → Units X → T2Out
timer2_out_at t u = t2.out_of (control_at t u) (timer2_inputs_at t u) t u.timer2

abbrev pub hsi_edges_at : {X : Type 0} → ℕ → Units X → PinEdges
hsi_edges_at t u = hsi_edges u.board_registers (rises_at t u) (falls_at t u)

abbrev pub hsi_out_at : {X : Type 0} → ℕ → Units X → HsiOut
hsi_out_at t u = hsi.out_of (hsi_edges_at t u) t u.hsi

-- a request where it is raised
abbrev pub request : ℕ → Bool → ℕ
request n raised = if raised then 2 ^ n else 0

infixl 20 ◌∪◌
abbrev pub ◌∪◌ : ℕ → ℕ → ℕ
m ∪ n = bit_or m n

-- the requests of pins: HSI0, EXTINT, P07, NMI
abbrev pub pin_requests : BoardRegisters → ℕ → ℕ
pin_requests board_registers rise =
    request 4 (bit rise hsi0) ∪ request 7 (if bit board_registers.ioc1 1 then bit rise p07 else bit rise extint)
    ∪ request 13 (bit rise extint) ∪ request 15 (bit rise nmi)

-- those of the timers
abbrev pub timer_requests : BoardRegisters → Bool → T2Out → ℕ
timer_requests board_registers passed timer2 =
    request 0 ((passed && bit board_registers.ioc1 2) || (timer2.overflow && bit board_registers.ioc1 3))
    ∪ request 11 timer2.captured ∪ request 12 timer2.overflow

-- those of HSI: request 2 at a move, or at the sixth entry where IOC1.7 is 1
abbrev pub hsi_requests : BoardRegisters → HsiOut → ℕ
hsi_requests board_registers out =
    request 2 (if bit board_registers.ioc1 7 then out.sixth else out.loaded) ∪ request 10 out.fourth ∪ request 14 out.sixth

-- all but those of the further unit
abbrev pub raised_at : {X : Type 0} → ℕ → Units X → ℕ
raised_at t u =
    pin_requests u.board_registers (rises_at t u) ∪ timer_requests u.board_registers (passes t) (timer2_out_at t u)
    ∪ hsi_requests u.board_registers (hsi_out_at t u) ∪ fired_request (fired_at t u)

-- bits of IOS1 and IOS2 and requests are set, and the levels kept
abbrev pub board_registers_after : BoardRegisters → ℕ → ℕ → ℕ → ℕ → BoardRegisters
board_registers_after board_registers levels ios1 ios2 raised = record board_registers {
  levels = levels;
  ios1 = board_registers.ios1 ∪ ios1;
  ios2 = board_registers.ios2 ∪ ios2;
  requests = record board_registers.requests { pending = board_registers.requests.pending ∪ raised };
}

module _ {X : Type 0} (f : Further X) where
  abbrev pub further_out_at : ℕ → Units X → ExtraOut
  further_out_at t u = f.out t (levels_at t u) (edges_at t u) u.further

  abbrev pub board_registers_at : ℕ → Units X → BoardRegisters
  board_registers_at t u =
      board_registers_after u.board_registers (levels_at t u)
      (fired_ios1 (fired_at t u) ∪ request 4 (timer2_out_at t u).overflow)
      (fired_ios2 (fired_at t u))
      (raised_at t u ∪ (further_out_at t u).raised.0)

  abbrev pub hso_at : ℕ → Units X → cam.Cam
  hso_at t u = cam.tick_of (bit u.board_registers.ioc2 6) t u.timer2.value u.hso

  -- all units in state t
  unfoldable pub tick : ℕ → Units X → Ticked X
  tick t u = record {
    units = record {
      drives = u.drives;
      board_registers = board_registers_at t u;
      overflowed = u.overflowed || passes t;
      timer2 = t2.tick_of (control_at t u) (timer2_inputs_at t u) t u.timer2;
      hso = hso_at t u;
      hsi = hsi.tick_of (hsi_edges_at t u) t u.hsi;
      further =
          let ticked : X = f.step t (levels_at t u) (edges_at t u) u.further in
          if starts (fired_at t u) then f.started t ticked else ticked;
    };
    edges = edges_between (printed u.board_registers u.hso) (printed (board_registers_at t u) (hso_at t u)) ++ (further_out_at t u).moved;
  }
