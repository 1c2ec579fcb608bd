-- The further units that are fitted to every board: the serial port, the converter and the pulse-width outputs, in this order of
-- asking (this kit's own). What each says of itself stands with its crate, and what two say together with `Pair`.
use Rattle.std.proofs.Common.{ℕ, List, refl, arith}
use Rattle.kc_base.specs.Bits.{bit}
use Rattle.kc_base.specs.Levels.{level_of}
use Rattle.kc_base.specs.declared.types.Level.{Level}
use Rattle.kc_span.specs.Span.{Counted}
use Rattle.kc_stim.specs.Drives.{Drives, driven_from}
use Rattle.kc_extra.specs.Further.{Further}
use Rattle.kc_extra.specs.declared.extra.Extra as extra
use Rattle.kc_extra.specs.declared.pair.Pair.{Pair}
use Rattle.kc_extra.specs.contracts.pair.Pair as pair_type
use Rattle.kc_extra.specs.contracts.pair_unit.PairExtra.TheImpl as pair
use Rattle.kc_base.specs.Pins.{rxd}
use Rattle.kc_serial.specs.Port.{start as start_of_port}
use Rattle.kc_serial.specs.declared.serial.Serial.{Serial}
use Rattle.kc_serial.specs.contracts.serial.Serial as serial_type
use Rattle.kc_serial.specs.contracts.serial.SerialExtra.TheImpl as serial
use Rattle.kc_convert.specs.declared.sample.Sample.{Sample}
use Rattle.kc_convert.specs.Converting.{Converting, new_converter}
use Rattle.kc_convert.specs.Pulsing.{new_pulses}
use Rattle.kc_convert.specs.declared.pulses.Pulses.{Pulses}
use Rattle.kc_convert.specs.contracts.converter.Converter as converter_type
use Rattle.kc_convert.specs.contracts.converter.ConverterExtra.TheImpl as converter
use Rattle.kc_convert.specs.contracts.pulses.Pulses as pulses_type
use Rattle.kc_convert.specs.contracts.pulses.PulsesExtra.TheImpl as pulses
use Rattle.kc_block_spec.specs.Levels.{stimulated_before}
use Rattle.kc_kit_inputs.specs.declared.driving.Driving.{Driving}

-- ---- a pair with a pair in it, and what the units of each say of themselves

abbrev pub AnalogUnits : Type 0
AnalogUnits = Pair (Counted Converting) Pulses converter.ghosts pulses.ghosts

abbrev pub analog_says : extra.Ghosts AnalogUnits
analog_says = pair.ghosts converter_type.the_row pulses_type.the_row converter.ghosts pair.no_dict pulses.ghosts pair.no_dict

abbrev pub FittedUnit : Type 0
FittedUnit = Pair Serial AnalogUnits serial.ghosts analog_says

abbrev pub fitted_says : extra.Ghosts FittedUnit
fitted_says =
    pair.ghosts serial_type.the_row (pair_type.the_row converter_type.the_row pulses_type.the_row converter.ghosts pulses.ghosts) serial.ghosts pair.no_dict analog_says pair.no_dict

abbrev pub fitted_further : Further FittedUnit
fitted_further = fitted_says.further

abbrev pub fitted_agrees : ℕ → ℕ → FittedUnit → Type 0
fitted_agrees = fitted_says.agrees

-- ---- before the first state

abbrev pub rxd_before : Drives → Level
rxd_before drives = level_of (bit (stimulated_before drives 0) rxd)

-- The port is off, and RXD has its level before state 0. No conversion has begun, and the converter's state 0 is this state of
-- the values. Each width is 0.
abbrev pub units_at : Drives → List Sample → ℕ → FittedUnit
units_at drives values from = record {
  first = start_of_port (rxd_before drives);
  second = record { first = record { inner = new_converter values from; moves = 0 }; second = new_pulses; moves = 0; few = omega arith; apart = refl };
  moves = 0;
  few = omega arith;
  apart = refl;
}

abbrev pub fitted : Driving → FittedUnit
fitted driving = units_at driving.stimuli driving.values 0

-- before the first state of the life that begins at a state of what drives the inputs
abbrev pub fitted_for : List Sample → Drives → ℕ → FittedUnit
fitted_for values drives from = units_at (driven_from from drives) values from
