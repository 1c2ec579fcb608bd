-- A bus without units has the masks and WSR where the table of registers has them, and no other register (80C196KC User's
-- Manual, "Special Function Registers"; that bus is this kit's own).
use Rattle.std.specs.Prelude.{◌≡◌, ℕ, if◌then◌else◌, Option, Some, None, Result, Ok, Err}
use Rattle.kc_base.specs.declared.types.Kind.{Kind}
use Rattle.kc_base.specs.declared.types.Kind.TheVariants.{NoRegister, BadWindow}
use Rattle.kc_exec_spec.specs.declared.access.Masks.{Masks}
use Rattle.kc_exec_spec.specs.Window.{is_wsr}
use Rattle.kc_bus.specs.Registers.{register_of, with_register}
use Rattle.kc_block_spec.specs.declared.registers.ReadableByte.{ReadableByte}
use Rattle.kc_block_spec.specs.declared.registers.ReadableByte.TheVariants as reads
use Rattle.kc_block_spec.specs.declared.registers.WritableByte.{WritableByte}
use Rattle.kc_block_spec.specs.declared.registers.WritableByte.TheVariants as writes
use Rattle.kc_block_spec.specs.Registers.{bytes_read_everywhere, bytes_written_everywhere, row_at}

-- a read of what the table names
abbrev pub mask_read : Masks → Option ReadableByte → Result ℕ Kind
mask_read m (Some reads.IntMask) = Ok m.int_mask
mask_read m (Some reads.IntMask1) = Ok m.int_mask1
mask_read m (Some reads.Wsr) = Ok m.wsr
mask_read m _ = Err NoRegister

abbrev pub PlainReads : Type 0
PlainReads = (m : Masks) (addr : ℕ) → register_of m addr ≡ mask_read m (row_at bytes_read_everywhere addr)

-- a write to it
abbrev pub mask_written : Masks → Option WritableByte → ℕ → Result Masks Kind
mask_written m (Some writes.IntMask) n = Ok (record m { int_mask = n })
mask_written m (Some writes.IntMask1) n = Ok (record m { int_mask1 = n })
mask_written m (Some writes.Wsr) n = if is_wsr n then Ok (record m { wsr = n }) else Err BadWindow
mask_written m _ n = Err NoRegister

abbrev pub PlainWrites : Type 0
PlainWrites = (m : Masks) (addr n : ℕ) → with_register m addr n ≡ mask_written m (row_at bytes_written_everywhere addr) n
