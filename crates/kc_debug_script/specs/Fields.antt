-- The fields of a line of a debugger script or of a line map (this kit's own).
use Rattle.std.specs.Prelude.{ℕ, Bool, nat_le, if◌then◌else◌, Option, Some, None, List}
use Rattle.kc_base.specs.Fields.{decimal_of}

-- what passes a test
abbrev pub if_is : {A : Type 0} → (A → Bool) → Option A → Option A
if_is test None = None
if_is test (Some a) = if test a then Some a else None

-- a number: decimal digits, from 1 to a limit
abbrev pub number_of : ℕ → List ℕ → Option ℕ
number_of limit text = if_is (λ n. nat_le 1 n) (decimal_of limit text)
