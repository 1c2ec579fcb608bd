-- A law of inputs: before state 0 each is, in the lives of a run, as nothing has driven it yet (this kit's own).
use Rattle.std.specs.Prelude.{◌≡◌, ℕ, true}
use Rattle.kc_base.specs.Pins.{IsPin, is_input}
use Rattle.kc_stim.specs.Drives as drives
use Rattle.kc_trace.specs.declared.life.Signal.TheVariants.{Input}
use Rattle.kc_trace.specs.Signals as lives

abbrev pub StartLevelsAgree : Type 0
StartLevelsAgree = (pin : ℕ) → IsPin pin → is_input pin ≡ true → lives.start_level (Input (record { 0 = pin })) ≡ drives.start_level pin
