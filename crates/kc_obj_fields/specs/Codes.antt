-- The codes of the faults of an object (this kit's own), by their numbers and as definitions name them.
use Rattle.std.specs.Prelude.{ℕ}
use Rattle.kc_obj_fields.specs.declared.faults.ObjCode.{ObjCode}
use Rattle.kc_obj_fields.specs.declared.faults.ObjCode.TheVariants as codes

abbrev pub code_number : ObjCode → ℕ
code_number codes.WrongOrder = 1
code_number codes.TooShort = 2
code_number codes.OutOfRange = 3
code_number codes.OtherSpelling = 4
code_number codes.BytesBehind = 5
code_number codes.NoName = 6

abbrev pub wrong_order : ℕ
wrong_order = code_number codes.WrongOrder

abbrev pub too_short : ℕ
too_short = code_number codes.TooShort

abbrev pub out_of_range : ℕ
out_of_range = code_number codes.OutOfRange

abbrev pub other_spelling : ℕ
other_spelling = code_number codes.OtherSpelling

abbrev pub bytes_behind : ℕ
bytes_behind = code_number codes.BytesBehind

abbrev pub no_name : ℕ
no_name = code_number codes.NoName
