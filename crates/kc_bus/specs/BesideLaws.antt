-- What a bus of bytes beside registers keeps to.
use Rattle.std.proofs.Common.{◌≡◌, ℕ, ◌<◌, arith, refl}
use Rattle.std.specs.Prelude.{slice_index, slice_set, length, nat_lt, ◌==◌, if◌then◌else◌, false, true, List, Ok, Err}
use Rattle.std.proofs.lemmas.Grind.{common_steps}
use Rattle.kc_base.specs.declared.types.Kind.TheVariants.{BadWindow}
use Rattle.kc_exec_spec.specs.declared.access.Masks.{Masks}
use Rattle.kc_exec_spec.specs.declared.access.Access.{Access}
use Rattle.kc_exec_spec.specs.declared.access.Access.TheVariants.{ReadByte, ReadWord, WriteByte, WriteWord, SetMasks}
use Rattle.kc_exec_spec.specs.Effect.{Meaning}
use Rattle.kc_exec_spec.specs.Memory.{IsLawful, IsMemory, IsOfRegister}
use Rattle.kc_exec_spec.specs.Window.{is_wsr}
use Rattle.kc_bus.specs.Beside.{Beside, put, answer_beside, after_beside, beside}

is_memory : (addr : ℕ) → IsMemory addr → nat_lt addr 24 ≡ false
is_memory addr m = grind (arith, common_steps)

is_register : (addr : ℕ) → addr < 24 → nat_lt addr 24 ≡ true
is_register addr m = grind (arith, common_steps)

index-set : (bytes : List ℕ) (addr n x : ℕ) → addr < length bytes → slice_index (slice_set bytes addr n) x ≡ (if x == addr then n else slice_index bytes x)
index-set bytes addr n x inside = grind (arith, common_steps)

answer-put : {R : Type 0} (own : Meaning R) (h : Beside R) (addr n : ℕ) (r : Access) → IsOfRegister r → answer_beside own (put h addr n) r ≡ answer_beside own h r
answer-put own h addr n (ReadByte by a) m = let on = is_register a m in rw on
answer-put own h addr n (ReadWord by a) m = let on = is_register a m in rw on
answer-put own h addr n (WriteByte by a v) m = let on = is_register a m in rw on
answer-put own h addr n (WriteWord by a v) m = let on = is_register a m in rw on
answer-put own h addr n (SetMasks masks) m = refl

after-put : {R : Type 0} (own : Meaning R) (h : Beside R) (addr n : ℕ) (r : Access) → IsOfRegister r → after_beside own (put h addr n) r ≡ put (after_beside own h r) addr n
after-put own h addr n (ReadByte by a) m = refl
after-put own h addr n (ReadWord by a) m = refl
after-put own h addr n (WriteByte by a v) m = let on = is_register a m in rw on
after-put own h addr n (WriteWord by a v) m = let on = is_register a m in rw on
after-put own h addr n (SetMasks masks) m = refl

byte-after : {R : Type 0} (own : Meaning R) (h : Beside R) (r : Access) (x : ℕ) → IsOfRegister r → slice_index (after_beside own h r).bytes x ≡ slice_index h.bytes x
byte-after own h (ReadByte by a) x m = refl
byte-after own h (ReadWord by a) x m = refl
byte-after own h (WriteByte by a v) x m = let on = is_register a m in rw on
byte-after own h (WriteWord by a v) x m = let on = is_register a m in rw on
byte-after own h (SetMasks masks) x m = refl

-- where there is a byte for each address, and the registers take the masks that they are given
pub beside_is_lawful : {B R : Type 0} (held : B → Beside R) (own : Meaning R) → ((b : B) → length (held b).bytes ≡ 65536)
    → ((r : R) (m : Masks) → own.answer r (SetMasks m) ≡ (if is_wsr m.wsr then Ok 0 else Err BadWindow))
    → ((r : R) (m : Masks) → own.masks (own.after r (SetMasks m)) ≡ m)
    → IsLawful held (beside own) (λ h. length h.bytes ≡ 65536) (λ h addr. slice_index h.bytes addr) put
beside_is_lawful held own long set_masks masks-after = record {
  whole = long;
  read_byte = λ h by addr m. let off = is_memory addr m in rw off;
  read_word = λ h by addr m. let off = is_memory addr m in rw off;
  write_byte = λ h by addr n m. let off = is_memory addr m in rw off;
  write_word = λ h by addr n m. let off = is_memory addr m in rw off;
  after_read_byte = λ h by addr m. refl;
  after_read_word = λ h by addr m. refl;
  after_write_byte = λ h by addr n m. let off = is_memory addr m in rw off;
  after_write_word = λ h by addr n m. let off = is_memory addr m in rw off;
  byte-put = λ h addr n x w m mx. index-set h.bytes addr n x (omega arith);
  answer-put = answer-put own;
  after-put = after-put own;
  masks-put = λ h addr n. refl;
  byte-after = byte-after own;
  set_masks = λ h m. set_masks h.registers m;
  masks-after = λ h m byte. masks-after h.registers m;
}
