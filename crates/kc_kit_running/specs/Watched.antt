-- The further units of a board that is run over several lives: those that are fitted to every board, and the watchdog (this
-- kit's own).
use Rattle.std.proofs.Common.{ℕ, List, refl, arith}
use Rattle.kc_stim.specs.Drives.{Drives}
use Rattle.kc_convert.specs.declared.sample.Sample.{Sample}
use Rattle.kc_extra.specs.Further.{Further}
use Rattle.kc_extra.specs.declared.extra.Extra as extra
use Rattle.kc_extra.specs.declared.pair.Pair.{Pair}
use Rattle.kc_extra.specs.contracts.pair.Pair as pair_type
use Rattle.kc_extra.specs.contracts.pair_unit.PairExtra.TheImpl as pair
use Rattle.kc_serial.specs.contracts.serial.Serial as serial_type
use Rattle.kc_serial.specs.contracts.serial.SerialExtra.TheImpl as serial
use Rattle.kc_convert.specs.contracts.converter.Converter as converter_type
use Rattle.kc_convert.specs.contracts.converter.ConverterExtra.TheImpl as converter
use Rattle.kc_convert.specs.contracts.pulses.Pulses as pulses_type
use Rattle.kc_convert.specs.contracts.pulses.PulsesExtra.TheImpl as pulses
use Rattle.kc_cycles.specs.declared.watchdog.Watchdog.{Watchdog}
use Rattle.kc_cycles.specs.contracts.watchdog.Watchdog as watchdog_type
use Rattle.kc_cycles.specs.contracts.watchdog.WatchdogExtra.TheImpl as watchdog
use Rattle.kc_cycles.specs.Watching.{new_watchdog}
use Rattle.kc_kit_running.specs.Fitted.{FittedUnit, analog_says, fitted_says, fitted_for}

abbrev pub WatchedUnit : Type 0
WatchedUnit = Pair FittedUnit Watchdog fitted_says watchdog.ghosts

abbrev pub watched_says : extra.Ghosts WatchedUnit
watched_says =
    pair.ghosts (pair_type.the_row serial_type.the_row (pair_type.the_row converter_type.the_row pulses_type.the_row converter.ghosts pulses.ghosts) serial.ghosts analog_says) watchdog_type.the_row
    fitted_says pair.no_dict watchdog.ghosts pair.no_dict

abbrev pub watched_further : Further WatchedUnit
watched_further = watched_says.further

-- before the first state of the life that begins at a state of what drives the inputs; nothing has fed the watchdog
abbrev pub watched_for : List Sample → Drives → ℕ → WatchedUnit
watched_for values drives from = record { first = fitted_for values drives from; second = new_watchdog; moves = 0; few = omega arith; apart = refl }
