-- Which units a Tick touches, and whether it does anything (this kit's own).
use Rattle.std.specs.Prelude.{ℕ, zero, suc, ◌+◌, ◌==◌, Bool, not, ◌&&◌, ◌||◌, if◌then◌else◌, List, [], ◌++◌, map}
use Rattle.kc_base.specs.Bits.{bit}
use Rattle.kc_base.specs.Pins.{hsi0, hsi1, hsi2, hsi3, t2clk, t2rst, t2ud, t2cap}
use Rattle.kc_base.specs.declared.types.Edge.{Edge}
use Rattle.kc_span.specs.Span.{Rule, after}
use Rattle.kc_hso.specs.Cam.{fires, slot_at, loads}
use Rattle.kc_hsi.specs.Input.{gathered_with, is_push, is_move}
use Rattle.kc_extra.specs.Further.{Further, is_silent}
use Rattle.kc_block_spec.specs.Units.{Units}
use Rattle.kc_block_spec.specs.Fired.{resets, starts}
use Rattle.kc_block_spec.specs.Tick.{passes, edges_at, fired_at, timer2_out_at, hsi_edges_at, further_out_at, tick}

-- HSO fires, or a slot takes the holding register
abbrev pub hso_works : {X : Type 0} → ℕ → Units X → Bool
hso_works t u = fires (slot_at u.hso t) t u.timer2.value || loads u.hso t

-- HSI pushes, be the entry lost or not, or moves
abbrev pub hsi_works : {X : Type 0} → ℕ → Units X → Bool
hsi_works t u = is_push t (gathered_with (hsi_edges_at t u) u.hsi) || is_move t u.hsi

-- an edge of HSI0, HSI1, T2CLK, T2RST, T2UD or T2CAP, an overflow, or channel 14
abbrev pub timer2_touched : {X : Type 0} → ℕ → Units X → Bool
timer2_touched t u =
    let e = edges_at t u in
    ((bit e hsi0 || bit e hsi1) || ((bit e t2clk || bit e t2rst) || (bit e t2ud || bit e t2cap)))
    || ((timer2_out_at t u).overflow || resets (fired_at t u))

abbrev pub hso_touched : {X : Type 0} → ℕ → Units X → Bool
hso_touched t u = hso_works t u || timer2_touched t u

-- an edge of HSI0 to HSI3, a push or a move
abbrev pub hsi_touched : {X : Type 0} → ℕ → Units X → Bool
hsi_touched t u =
    let e = edges_at t u in
    ((bit e hsi0 || bit e hsi1) || (bit e hsi2 || bit e hsi3)) || hsi_works t u

abbrev pub one_if : Bool → ℕ
one_if b = if b then 1 else 0

-- the edges of a state, each with the state
abbrev pub in_state : ℕ → List Edge → List (ℕ × Edge)
in_state t edges = map (λ edge. (t, edge)) edges

module _ {X : Type 0} (f : Further X) where
  -- the further unit raises a request or moves a pin
  abbrev pub further_works : ℕ → Units X → Bool
  further_works t u = not (is_silent (further_out_at f t u))

  abbrev pub further_touched : ℕ → Units X → Bool
  further_touched t u = not (edges_at t u == 0) || (further_works t u || starts (fired_at t u))

  -- how many units a Tick touches, 0 to 4
  unfoldable pub touched : ℕ → Units X → ℕ
  touched t u = one_if (timer2_touched t u) + one_if (hso_touched t u) + one_if (hsi_touched t u) + one_if (further_touched t u)

  -- a Tick in which an input has an edge, a unit does something, or Timer 1 raises its request
  unfoldable pub worked : ℕ → Units X → Bool
  worked t u =
      not (edges_at t u == 0)
      || (hso_works t u || ((timer2_out_at t u).overflow || (hsi_works t u || (further_works t u || (passes t && bit u.board_registers.ioc1 2)))))

  -- all units by themselves, without accesses
  abbrev pub block_rule : Rule (Units X)
  block_rule = record { step = λ t u. (tick f t u).units; quiet = λ t u. not (worked t u) }

  -- how many so many Ticks from a state on touch, and their edges, each with its state, in order
  unfoldable pub touch : ℕ → ℕ → Units X → ℕ
  touch from zero u = 0
  touch from (suc n) u = touch from n u + touched (from + n) (after block_rule from n u)

  unfoldable pub edges_of : ℕ → ℕ → Units X → List (ℕ × Edge)
  edges_of from zero u = []
  edges_of from (suc n) u = edges_of from n u ++ in_state (from + n) (tick f (from + n) (after block_rule from n u)).edges
