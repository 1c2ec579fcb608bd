-- What a master may ask of the bus (80C196KC User's Manual, "Memory Map").
use Rattle.std.specs.Prelude.{◌≡◌, ℕ, Result, Ok, Err}
use Rattle.kc_base.specs.declared.types.Kind.{Kind}
pub use Rattle.kc_exec_spec.specs.declared.access.Access.{Access}
pub use Rattle.kc_exec_spec.specs.declared.access.Access.TheVariants.{ReadByte, ReadWord, WriteByte, WriteWord, SetMasks}

-- The answer of a call that gives no value: the bus answers 0 where it accepts.
abbrev pub Accepts : Result (Unit {0}) Kind → Result ℕ Kind → Type 0
Accepts (Ok u) answer = answer ≡ Ok 0
Accepts (Err k) answer = answer ≡ Err k
