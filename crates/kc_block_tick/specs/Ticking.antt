-- What a Tick is given and gives, as the code holds it (this kit's own).
use Rattle.std.specs.Prelude.{ℕ}
use Rattle.kc_due.specs.Due.{at_slot}
use Rattle.kc_extra.specs.Further.{Further}
use Rattle.kc_span.specs.DeferredUnit.{is_due_in}
use Rattle.kc_block_spec.specs.Units.{Units}
use Rattle.kc_block_spec.specs.Levels.{levels_at}
use Rattle.kc_block_spec.specs.Tick.{edges_at, rises_at, falls_at, fired_at, timer2_out_at, hsi_out_at, further_out_at}
use Rattle.kc_block_spec.specs.Touch.{timer2_touched, hso_touched, hsi_touched, further_touched}
use Rattle.kc_block_units.specs.Scheduler.{Scheduler, shown_units}
use Rattle.kc_block_units.specs.Events.{flag_touched}
use Rattle.kc_block_tick.specs.declared.pins.Inputs.{Inputs}
use Rattle.kc_block_tick.specs.declared.asks.Touched.{Touched}
use Rattle.kc_block_tick.specs.declared.ticks.Given.{Given}

-- the inputs in a state
abbrev pub inputs_at : {X : Type 0} → ℕ → Units X → Inputs
inputs_at now u = record { levels = levels_at now u; edges = edges_at now u; rise = rises_at now u; fall = falls_at now u }

-- what the Tick of the present state touches, and whether stimuli come in it
abbrev pub touched_by : {X : Type 0} → Further X → Scheduler X → ℕ → Touched
touched_by f h now = record {
  flag = flag_touched h now;
  timer2 = timer2_touched now (shown_units f h now);
  hso = hso_touched now (shown_units f h now);
  hsi = hsi_touched now (shown_units f h now);
  further = further_touched f now (shown_units f h now);
  stimuli = is_due_in now (at_slot h.due 5);
}

-- what the units give in it
abbrev pub given_in : {X : Type 0} → Further X → Scheduler X → ℕ → Given
given_in f h now = record {
  touched = touched_by f h now;
  fired = fired_at now (shown_units f h now);
  counted = timer2_out_at now (shown_units f h now);
  queued = hsi_out_at now (shown_units f h now);
  others = (further_out_at f now (shown_units f h now)).raised;
}
