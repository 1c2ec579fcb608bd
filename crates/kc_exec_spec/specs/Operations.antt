-- Results and flags of the operations on one or two numbers of a width (80C196KC User's Manual, "Instruction Set"; what each does
-- to the flags is this kit's own).
use Rattle.std.specs.Prelude.{ℕ, Bool, true, false, ◌-◌, ◌*◌, if◌then◌else◌, bit_and, bit_or, bit_xor}
use Rattle.kc_alu.specs.declared.flags.Flags.{Flags}
use Rattle.kc_alu.specs.Arithmetic.{carry_in, borrow_in, sum_result, sum_flags, difference_result, difference_flags, logic_flags}
use Rattle.kc_exec_spec.specs.declared.plan.Operation.{Operation}
use Rattle.kc_exec_spec.specs.declared.plan.Operation.TheVariants.{Add, AddCarry, Sub, SubBorrow, Compare, And, Or, Xor}
use Rattle.kc_exec_spec.specs.declared.plan.Alteration.{Alteration}
use Rattle.kc_exec_spec.specs.declared.plan.Alteration.TheVariants.{Clear, Complement, Negate, Increment, Decrement}

abbrev pub width : Bool → ℕ
width byte = if byte then 8 else 16

unfoldable pub computed : Operation → ℕ → ℕ → ℕ → Flags → ℕ
computed Add half a s f = sum_result half a s (carry_in false f)
computed AddCarry half a s f = sum_result half a s (carry_in true f)
computed Sub half a s f = difference_result half a s (borrow_in false f)
computed SubBorrow half a s f = difference_result half a s (borrow_in true f)
computed Compare half a s f = difference_result half a s (borrow_in false f)
computed And half a s f = bit_and a s
computed Or half a s f = bit_or a s
computed Xor half a s f = bit_xor a s

unfoldable pub computed_flags : Operation → ℕ → ℕ → ℕ → Flags → Flags
computed_flags Add half a s f = sum_flags half a s (carry_in false f) false f
computed_flags AddCarry half a s f = sum_flags half a s (carry_in true f) true f
computed_flags Sub half a s f = difference_flags half a s (borrow_in false f) false f
computed_flags SubBorrow half a s f = difference_flags half a s (borrow_in true f) true f
computed_flags Compare half a s f = difference_flags half a s (borrow_in false f) false f
computed_flags And half a s f = logic_flags half (bit_and a s) f
computed_flags Or half a s f = logic_flags half (bit_or a s) f
computed_flags Xor half a s f = logic_flags half (bit_xor a s) f

abbrev pub writes_result : Operation → Bool
writes_result Compare = false
writes_result _ = true

abbrev pub complement : ℕ → ℕ → ℕ
complement half n = 2 * half - 1 - n

unfoldable pub altered : Alteration → ℕ → ℕ → Flags → ℕ
altered Clear half n f = 0
altered Complement half n f = complement half n
altered Negate half n f = difference_result half 0 n (borrow_in false f)
altered Increment half n f = sum_result half n 1 (carry_in false f)
altered Decrement half n f = difference_result half n 1 (borrow_in false f)

unfoldable pub altered_flags : Alteration → ℕ → ℕ → Flags → Flags
altered_flags Clear half n f = logic_flags half 0 f
altered_flags Complement half n f = logic_flags half (complement half n) f
altered_flags Negate half n f = difference_flags half 0 n (borrow_in false f) false f
altered_flags Increment half n f = sum_flags half n 1 (carry_in false f) false f
altered_flags Decrement half n f = difference_flags half n 1 (borrow_in false f) false f

-- CLR reads nothing
abbrev pub reads_register : Alteration → Bool
reads_register Clear = false
reads_register _ = true
