-- A bus without units has the masks and WSR where the table of registers has them.
use Rattle.std.proofs.Common.{◌≡◌, ℕ, ◌==◌, Bool, true, false, if◌then◌else◌, Option, Some, None, Err, refl, sym, subst, arith}
use Rattle.std.proofs.lemmas.Grind.{common_steps}
use Rattle.kc_base.specs.declared.types.Kind.TheVariants.{NoRegister}
use Rattle.kc_exec_spec.specs.declared.access.Masks.{Masks}
use Rattle.kc_bus.specs.Registers.{register_of, with_register}
use Rattle.kc_block_spec.specs.declared.registers.ReadableByte.{ReadableByte}
use Rattle.kc_block_spec.specs.declared.registers.ReadableByte.TheVariants as reads
use Rattle.kc_block_spec.specs.declared.registers.WritableByte.{WritableByte}
use Rattle.kc_block_spec.specs.declared.registers.WritableByte.TheVariants as writes
use Rattle.kc_block_spec.specs.Registers.{bytes_read_everywhere, bytes_written_everywhere, row_at}
use Rattle.kc_block_sfr.specs.PlainBus.{mask_read, mask_written, PlainReads, PlainWrites}

no_read : (m : Masks) (b : Bool) (r : ReadableByte) (rest : Option ReadableByte) → mask_read m (Some r) ≡ Err NoRegister → mask_read m rest ≡ Err NoRegister → mask_read m (if b then Some r else rest) ≡ Err NoRegister
no_read m true r rest h k = h
no_read m false r rest h k = k

no_write : (m : Masks) (n : ℕ) (b : Bool) (r : WritableByte) (rest : Option WritableByte) → mask_written m (Some r) n ≡ Err NoRegister → mask_written m rest n ≡ Err NoRegister → mask_written m (if b then Some r else rest) n ≡ Err NoRegister
no_write m n true r rest h k = h
no_write m n false r rest h k = k

pub plain_reads : PlainReads
unfolding bytes_read_everywhere
plain_reads m addr = at_mask (addr == 0x08) refl
  where
    other : (addr == 0x08) ≡ false → (addr == 0x13) ≡ false → (addr == 0x14) ≡ false → register_of m addr ≡ mask_read m (row_at bytes_read_everywhere addr)
    other e h k =
        rw (e, h, k) (sym (no_read m (addr == 0x00) reads.Zeros _ refl (no_read m (addr == 0x01) reads.Zeros _ refl (no_read m (addr == 0x09) reads.IntPend _ refl (no_read m (addr == 0x12) reads.IntPend1 _ refl refl)))))

    at_wsr : (b : Bool) → (addr == 0x14) ≡ b → (addr == 0x08) ≡ false → (addr == 0x13) ≡ false → register_of m addr ≡ mask_read m (row_at bytes_read_everywhere addr)
    at_wsr true k e h = let is : addr ≡ 0x14 = grind (arith, common_steps) in subst (λ a. register_of m a ≡ mask_read m (row_at bytes_read_everywhere a)) (sym is) refl
    at_wsr false k e h = other e h k

    at_mask1 : (b : Bool) → (addr == 0x13) ≡ b → (addr == 0x08) ≡ false → register_of m addr ≡ mask_read m (row_at bytes_read_everywhere addr)
    at_mask1 true h e = let is : addr ≡ 0x13 = grind (arith, common_steps) in subst (λ a. register_of m a ≡ mask_read m (row_at bytes_read_everywhere a)) (sym is) refl
    at_mask1 false h e = at_wsr (addr == 0x14) refl e h

    at_mask : (b : Bool) → (addr == 0x08) ≡ b → register_of m addr ≡ mask_read m (row_at bytes_read_everywhere addr)
    at_mask true e = let is : addr ≡ 0x08 = grind (arith, common_steps) in subst (λ a. register_of m a ≡ mask_read m (row_at bytes_read_everywhere a)) (sym is) refl
    at_mask false e = at_mask1 (addr == 0x13) refl e

pub plain_writes : PlainWrites
unfolding bytes_written_everywhere
plain_writes m addr n = at_mask (addr == 0x08) refl
  where
    other : (addr == 0x08) ≡ false → (addr == 0x13) ≡ false → (addr == 0x14) ≡ false → with_register m addr n ≡ mask_written m (row_at bytes_written_everywhere addr) n
    other e h k =
        rw (e, h, k) (sym (no_write m n (addr == 0x00) writes.Zeros _ refl (no_write m n (addr == 0x01) writes.Zeros _ refl (no_write m n (addr == 0x09) writes.IntPend _ refl (no_write m n (addr == 0x12) writes.IntPend1 _ refl refl)))))

    at_wsr : (b : Bool) → (addr == 0x14) ≡ b → (addr == 0x08) ≡ false → (addr == 0x13) ≡ false → with_register m addr n ≡ mask_written m (row_at bytes_written_everywhere addr) n
    at_wsr true k e h = let is : addr ≡ 0x14 = grind (arith, common_steps) in subst (λ a. with_register m a n ≡ mask_written m (row_at bytes_written_everywhere a) n) (sym is) refl
    at_wsr false k e h = other e h k

    at_mask1 : (b : Bool) → (addr == 0x13) ≡ b → (addr == 0x08) ≡ false → with_register m addr n ≡ mask_written m (row_at bytes_written_everywhere addr) n
    at_mask1 true h e = let is : addr ≡ 0x13 = grind (arith, common_steps) in subst (λ a. with_register m a n ≡ mask_written m (row_at bytes_written_everywhere a) n) (sym is) refl
    at_mask1 false h e = at_wsr (addr == 0x14) refl e h

    at_mask : (b : Bool) → (addr == 0x08) ≡ b → with_register m addr n ≡ mask_written m (row_at bytes_written_everywhere addr) n
    at_mask true e = let is : addr ≡ 0x08 = grind (arith, common_steps) in subst (λ a. with_register m a n ≡ mask_written m (row_at bytes_written_everywhere a) n) (sym is) refl
    at_mask false e = at_mask1 (addr == 0x13) refl e
