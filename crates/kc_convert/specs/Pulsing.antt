-- The pulse-width outputs in one state (80C196KC User's Manual, "Pulse Width Modulation Outputs": an output is high from the
-- start of each period of 256 states on, for as many states as its width says; the pins of their own, and that a width is
-- taken over at the start of a period, are this kit's own).
use Rattle.std.specs.Prelude.{ℕ, ◌-◌, ◌%◌, ◌==◌, Bool, true, false, ◌&&◌, ◌||◌, nat_lt, if◌then◌else◌, None, List, [], ◌∷◌, ◌++◌}
use Rattle.kc_base.specs.Pins.{pwm0, pwm1, pwm2}
use Rattle.kc_base.specs.declared.types.Edge.{Edge}
use Rattle.kc_base.specs.declared.types.Level.TheVariants.{Low, High}
use Rattle.kc_span.specs.Span.{Rule}
use Rattle.kc_extra.specs.declared.outcome.ExtraOut.{ExtraOut}
use Rattle.kc_extra.specs.Further.{Further, is_empty}
use Rattle.kc_convert.specs.declared.pulses.Output.{Output}
use Rattle.kc_convert.specs.declared.pulses.Pulses.{Pulses}

abbrev pub period : ℕ
period = 256

-- the level of an output in state t, at this width
abbrev pub level : ℕ → ℕ → Bool
level width t = nat_lt (t % period) width

-- the level in the state before: a period ends low, since a width is below 256, and so is all before state 0
abbrev pub level_before : ℕ → ℕ → Bool
level_before width t = if t % period == 0 then false else level width (t - 1)

-- the width written is in force from the start of the next period on
abbrev pub taken_over : ℕ → Output → Output
taken_over t o = record { written = o.written; in_force = if t % period == 0 then o.written else o.in_force }

-- the edge of a pin between two levels, if there is one
abbrev pub edge_between : ℕ → Bool → Bool → List Edge
edge_between pin true true = []
edge_between pin false false = []
edge_between pin true false = record { pin = record { 0 = pin }; level = Low } ∷ []
edge_between pin false true = record { pin = record { 0 = pin }; level = High } ∷ []

abbrev pub output_edges : ℕ → ℕ → Output → List Edge
output_edges pin t o = edge_between pin (level_before o.in_force t) (level (taken_over t o).in_force t)

-- one output by itself, on this pin
abbrev pub output_rule : ℕ → Rule Output
output_rule pin = record { step = λ t o. taken_over t o; quiet = λ t o. is_empty (output_edges pin t o) }

abbrev pub pulse_pins : List ℕ
pulse_pins = pwm0 ∷ pwm1 ∷ pwm2 ∷ []

abbrev pub new_output : Output
new_output = record { written = 0; in_force = 0 }

abbrev pub new_pulses : Pulses
new_pulses = record { first = new_output; second = new_output; third = new_output; moves = 0 }

-- state t
abbrev pub pulsed_in : ℕ → Pulses → Pulses
pulsed_in t d = record d { first = taken_over t d.first; second = taken_over t d.second; third = taken_over t d.third }

abbrev pub pulses_out : ℕ → Pulses → ExtraOut
pulses_out t d = record {
  raised = record { 0 = 0 };
  moved = output_edges pwm0 t d.first ++ (output_edges pwm1 t d.second ++ output_edges pwm2 t d.third);
}

-- PWM0_CONTROL in window 0, PWM1_CONTROL and PWM2_CONTROL in window 1
abbrev pub is_first : ℕ → ℕ → Bool
is_first window sfr = (window == 0) && (sfr == 0x17)

abbrev pub is_second : ℕ → ℕ → Bool
is_second window sfr = (window == 1) && (sfr == 0x16)

abbrev pub is_third : ℕ → ℕ → Bool
is_third window sfr = (window == 1) && (sfr == 0x17)

abbrev pub is_width : ℕ → ℕ → Bool
is_width window sfr = is_first window sfr || (is_second window sfr || is_third window sfr)

abbrev pub written_if : Bool → ℕ → Output → Output
written_if mine value o = record { written = if mine then value else o.written; in_force = o.in_force }

abbrev pub with_width : ℕ → ℕ → ℕ → Pulses → Pulses
with_width window sfr value d = record d {
  first = written_if (is_first window sfr) value d.first;
  second = written_if (is_second window sfr) value d.second;
  third = written_if (is_third window sfr) value d.third;
}

abbrev pub pulses_further : Further Pulses
pulses_further = record {
  step = λ t levels edges d. pulsed_in t d;
  out = λ t levels edges d. pulses_out t d;
  rest = λ t d. pulsed_in t d;
  rest_out = λ t d. pulses_out t d;
  readable = λ window sfr. false;
  answer = λ window sfr t d. None;
  after_read = λ window sfr t d. d;
  writable = λ window sfr. is_width window sfr;
  after_write = λ window sfr value t d. with_width window sfr value d;
  started = λ t d. d;
}
