-- The logic levels of pins.
use Rattle.std.specs.Prelude.{Bool, true, false, if◌then◌else◌}
use Rattle.kc_base.specs.declared.types.Level.{Level}
use Rattle.kc_base.specs.declared.types.Level.TheVariants.{Low, High}

abbrev pub level_of : Bool → Level
level_of high = if high then High else Low

abbrev pub is_high : Level → Bool
is_high Low = false
is_high High = true
