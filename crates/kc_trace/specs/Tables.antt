-- What a table of levels says (this kit's own).
use Rattle.std.specs.Prelude.{slice_index_or}
use Rattle.kc_base.specs.declared.types.Level.{Level}
use Rattle.kc_base.specs.declared.types.Level.TheVariants.{Low}
use Rattle.kc_trace.specs.declared.life.Signal.{Signal}
use Rattle.kc_trace.specs.declared.life.Signal.TheVariants.{Output, Input}
use Rattle.kc_trace.specs.declared.levels.Levels.{Levels}

abbrev pub level_in : Levels → Signal → Level
level_in levels (Output pin) = slice_index_or levels.outputs pin.0 Low
level_in levels (Input pin) = slice_index_or levels.inputs pin.0 Low
