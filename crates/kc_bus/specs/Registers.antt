-- The registers that a bus without units has: the three masks, and no other, not even 00H and 01H.
use Rattle.std.specs.Prelude.{ℕ, ◌+◌, ◌*◌, ◌/◌, ◌%◌, ◌==◌, if◌then◌else◌, Result, Ok, Err}
use Rattle.kc_base.specs.declared.types.Kind.{Kind}
use Rattle.kc_base.specs.declared.types.Kind.TheVariants.{NoRegister, BadWindow}
use Rattle.kc_exec_spec.specs.declared.access.Masks.{Masks}
use Rattle.kc_exec_spec.specs.Window.{is_wsr}

-- a byte read of a register
abbrev pub register_of : Masks → ℕ → Result ℕ Kind
register_of m addr =
    if addr == 8 then Ok m.int_mask
    else if addr == 0x13 then Ok m.int_mask1
    else if addr == 0x14 then Ok m.wsr
    else Err NoRegister

-- the masks after a byte write of a register
abbrev pub with_register : Masks → ℕ → ℕ → Result Masks Kind
with_register m addr n =
    if addr == 8 then Ok (record m { int_mask = n })
    else if addr == 0x13 then Ok (record m { int_mask1 = n })
    else if addr == 0x14 then (if is_wsr n then Ok (record m { wsr = n }) else Err BadWindow)
    else Err NoRegister

infixl 10 ◌>>=◌
abbrev pub ◌>>=◌ : {A B : Type 0} → Result A Kind → (A → Result B Kind) → Result B Kind
(Ok a) >>= f = f a
(Err k) >>= f = Err k

-- a word of registers is its two bytes, the low one first
abbrev pub word_of : Masks → ℕ → Result ℕ Kind
word_of m addr = register_of m addr >>= λ low. register_of m (addr + 1) >>= λ high. Ok (low + 256 * high)

abbrev pub with_word : Masks → ℕ → ℕ → Result Masks Kind
with_word m addr n = with_register m addr (n % 256) >>= λ mid. with_register mid (addr + 1) (n / 256)
