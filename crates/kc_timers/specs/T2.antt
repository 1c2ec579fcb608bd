-- Timer 2: what one Tick does, and how it goes on by itself (80C196KC User's Manual, "Timer 2"; the order inside a state,
-- and that the inner clock counts where the state time is 7 modulo 8, are this kit's own).
use Rattle.std.specs.Prelude.{ℕ, ◌+◌, ◌-◌, ◌*◌, ◌/◌, ◌%◌, ◌==◌, Bool, false, if◌then◌else◌, ◌&&◌, ◌||◌}
use Rattle.std.proofs.Common.{not}
use Rattle.kc_span.specs.Span.{Rule}
use Rattle.kc_timers.specs.declared.T2Control.{T2Control}
use Rattle.kc_timers.specs.declared.T2Inputs.{T2Inputs}
use Rattle.kc_timers.specs.declared.T2Out.{T2Out}
use Rattle.kc_timers.specs.declared.T2View.{T2View}

-- Timer 2 and T2CAPTURE
pub record T2 : Type 0 where
  pub value : ℕ
  pub captured : ℕ

-- whether a Tick at t counts: by the inner clock in each eighth state, or in every state at fast, else at an edge
abbrev pub is_count : T2Control → Bool → ℕ → Bool
is_count control clock t = if control.internal then (control.fast || (t % 8 == 7)) else clock

-- the value after a count
abbrev pub counted : Bool → ℕ → ℕ
counted down value = if down then (value + 65535) % 65536 else (value + 1) % 65536

-- the value at which a count passes between FFFFH and 0
abbrev pub last_before : Bool → ℕ
last_before down = if down then 0 else 65535

-- A capture takes the value at the start of the state. A reset wins over a count.
abbrev pub tick_of : T2Control → T2Inputs → ℕ → T2 → T2
tick_of control inputs t d = record {
  value = if inputs.reset then 0 else (if is_count control inputs.clock t then counted control.down d.value else d.value);
  captured = if inputs.capture then d.value else d.captured;
}

-- passing between FFFFH and 0; a reset never overflows
abbrev pub overflows : T2Control → T2Inputs → ℕ → T2 → Bool
overflows control inputs t d =
    not inputs.reset && (is_count control inputs.clock t && (d.value == last_before control.down))

-- what the Tick reports
abbrev pub out_of : T2Control → T2Inputs → ℕ → T2 → T2Out
out_of control inputs t d = record { overflow = overflows control inputs t d; captured = inputs.capture }

-- no edge and no reset
abbrev pub no_inputs : T2Inputs
no_inputs = record { clock = false; reset = false; capture = false }

-- Timer 2 by itself: a Tick without inputs, quiet where it does not overflow
abbrev pub timer2_rule : T2Control → Rule T2
timer2_rule control = record {
  step = λ t d. tick_of control no_inputs t d;
  quiet = λ t d. not (overflows control no_inputs t d);
}

-- how many states of its span count, by the inner clock: none, each eighth, or each
abbrev pub counts_in : ℕ → ℕ → ℕ → ℕ
counts_in every from to = if every == 8 then to / 8 - from / 8 else (if every == 1 then to - from else 0)

-- in how many states a count comes by the inner clock; 0 without it
abbrev pub every_of : T2Control → ℕ
every_of control = if control.internal then (if control.fast then 1 else 8) else 0

-- how many counts bring a value to the last one before it passes
abbrev pub counts_left : Bool → ℕ → ℕ
counts_left down value = if down then value else 65535 - value

-- the value after n counts
abbrev pub moved : Bool → ℕ → ℕ → ℕ
moved down value n = if down then (value + n * 65535) % 65536 else (value + n) % 65536

-- the value that a view of state from gives for state to
abbrev pub value_at : T2View → ℕ → ℕ → ℕ
value_at view from to = moved view.down view.value (counts_in view.every from to)

-- what HSO sees of the timer
abbrev pub view_of : T2Control → T2 → T2View
view_of control d = record { value = d.value; every = every_of control; down = control.down }
