-- The codes of the faults of a hex text (this kit's own).
use Rattle.std.specs.Prelude.{ℕ}
use Rattle.kc_hex.specs.declared.fault.HexCode.{HexCode}
use Rattle.kc_hex.specs.declared.fault.HexCode.TheVariants as codes

abbrev pub code_number : HexCode → ℕ
code_number codes.Form = 1
code_number codes.Checksum = 2
code_number codes.Type = 3
code_number codes.Address = 4
code_number codes.Behind = 5
code_number codes.NoEnd = 6
