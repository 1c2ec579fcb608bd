-- The codes of the faults of a library (this kit's own).
use Rattle.std.specs.Prelude.{ℕ}
use Rattle.kc_lib.specs.declared.faults.LibCode.{LibCode}
use Rattle.kc_lib.specs.declared.faults.LibCode.TheVariants.{Head, End, NoObject, SecondName, TooMany, Behind}

abbrev pub code_number : LibCode → ℕ
code_number Head = 1
code_number End = 2
code_number NoObject = 3
code_number SecondName = 4
code_number TooMany = 5
code_number Behind = 6
