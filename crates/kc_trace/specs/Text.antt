-- How a trace is spelled, a line a record (this kit's own).
use Rattle.std.specs.Prelude.{ℕ, zero, suc, List, [], ◌∷◌, ◌++◌, codes, decimal, flat_map}
use Rattle.kc_base.specs.declared.types.Kind.{Kind}
use Rattle.kc_base.specs.declared.types.Kind.TheVariants as kind
use Rattle.kc_base.specs.declared.types.Level.{Level}
use Rattle.kc_base.specs.declared.types.Level.TheVariants.{Low, High}
use Rattle.kc_base.specs.declared.types.PtsMode.{PtsMode}
use Rattle.kc_base.specs.declared.types.PtsMode.TheVariants as mode
use Rattle.kc_base.specs.Pins.{pin_name}
use Rattle.kc_trace.specs.declared.record.Record.{Record}
use Rattle.kc_trace.specs.declared.record.Record.TheVariants.{Pin, Entered, Served, Undef, Stopped, Pc, Psw, Wsr, Registers}
-- a number as so many hex digits
pub use Rattle.kc_base.specs.Digits.{hex}

-- the number of an undefined use
abbrev pub kind_number : Kind → ℕ
kind_number kind.OddWord = 1
kind_number kind.LongAlign = 2
kind_number kind.Opcode = 3
kind_number kind.HoldingFull = 4
kind_number kind.FastTimer2 = 5
kind_number kind.Channel = 6
kind_number kind.NoRegister = 7
kind_number kind.BadWindow = 8
kind_number kind.BadPts = 9
kind_number kind.DivZero = 10
kind_number kind.RomWrite = 11
kind_number kind.OutsideMap = 12
kind_number kind.ByteAccess = 13
kind_number kind.IdleKey = 14

abbrev pub level_digit : Level → ℕ
level_digit Low = 48
level_digit High = 49

-- the name of a mode of the transfer server
abbrev pub mode_name : PtsMode → List ℕ
mode_name mode.Single = codes "single"
mode_name mode.Block = codes "block"
mode_name mode.Hsi = codes "hsi"
mode_name mode.Hso = codes "hso"
mode_name mode.Scan = codes "scan"

-- the name of an end by its number
abbrev pub end_name : ℕ → List ℕ
end_name zero = codes "spent"
end_name (suc zero) = codes "powerdown"
end_name (suc (suc zero)) = codes "reset"
end_name _ = codes "undefined"

-- the line of a record, without the byte that ends it
unfoldable pub fields_of : Record → List ℕ
fields_of (Pin at edge) = codes "P " ++ decimal at ++ codes " " ++ pin_name edge.pin.0 ++ codes " " ++ level_digit edge.level ∷ []
fields_of (Entered at vector back) = codes "I " ++ decimal at ++ codes " " ++ decimal vector ++ codes " " ++ hex 4 back
fields_of (Served at vector mode count) = codes "S " ++ decimal at ++ codes " " ++ decimal vector ++ codes " " ++ mode_name mode ++ codes " " ++ decimal count
fields_of (Undef what) = codes "U " ++ decimal what.at ++ codes " " ++ decimal (kind_number what.kind) ++ codes " " ++ hex 4 what.addr
fields_of (Stopped at how) = codes "X " ++ decimal at ++ codes " " ++ end_name how
fields_of (Pc value) = codes "PC " ++ hex 4 value
fields_of (Psw value) = codes "PSW " ++ hex 4 value
fields_of (Wsr value) = codes "WSR " ++ hex 2 value
fields_of (Registers base bytes) = codes "R " ++ hex 3 base ++ codes " " ++ flat_map (hex 2) bytes

-- the line of a record
abbrev pub line_of : Record → List ℕ
line_of item = fields_of item ++ 10 ∷ []

-- the lines of some records
unfoldable pub text_of : List Record → List ℕ
text_of records = flat_map line_of records
