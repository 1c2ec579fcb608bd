-- Which records have a line (this kit's own).
use Rattle.std.specs.Prelude.{◌<◌}
use Rattle.kc_base.specs.declared.types.Edge.{Edge}
use Rattle.kc_base.specs.Pins.{IsPin}
use Rattle.kc_trace.specs.declared.record.Record.{Record}
use Rattle.kc_trace.specs.declared.record.Record.TheVariants.{Pin, Stopped, Registers}

-- the pin has a name, the end is one of the four, and the base has three hex digits
abbrev pub CanPrint : Record → Type 0
CanPrint (Pin at edge) = IsPin edge.pin.0
CanPrint (Stopped at how) = how < 4
CanPrint (Registers base bytes) = base < 0x1000
CanPrint _ = Unit {0}

abbrev pub HasName : Edge → Type 0
HasName edge = IsPin edge.pin.0
