-- The bus whose only registers are the three masks.
use Rattle.std.specs.Prelude.{◌≡◌, ℕ, if◌then◌else◌, Result, Ok, Err, slice_index, length}
use Rattle.std.proofs.Common.{arith, refl}
use Rattle.kc_base.specs.declared.types.Kind.{Kind}
use Rattle.kc_base.specs.declared.types.Kind.TheVariants.{BadWindow}
use Rattle.kc_exec_spec.specs.declared.access.Masks.{Masks}
use Rattle.kc_exec_spec.specs.declared.access.Access.{Access}
use Rattle.kc_exec_spec.specs.declared.access.Access.TheVariants.{ReadByte, ReadWord, WriteByte, WriteWord, SetMasks}
use Rattle.kc_exec_spec.specs.Effect.{Meaning}
use Rattle.kc_exec_spec.specs.Memory.{IsLawful}
use Rattle.kc_exec_spec.specs.Window.{is_wsr}
use Rattle.kc_bus.specs.Registers.{register_of, with_register, word_of, with_word, ◌>>=◌}
use Rattle.kc_bus.specs.Beside.{Beside, beside, put}
use Rattle.kc_bus.specs.BesideLaws.{beside_is_lawful}
use Rattle.kc_bus.specs.Blank.{blank_bytes}
use Rattle.kc_bus.specs.declared.flat.Flat.{Flat}

abbrev pub held_of : Flat → Beside Masks
held_of flat = record { bytes = flat.bytes.items; registers = flat.masks }

abbrev pub start : Beside Masks
start = record { bytes = blank_bytes 0x2000 0xE000; registers = record { int_mask = 0; int_mask1 = 0; wsr = 0 } }

abbrev pub accepted : Result Masks Kind → Result ℕ Kind
accepted r = r >>= λ m. Ok 0

abbrev pub kept : Masks → Result Masks Kind → Masks
kept m (Ok new) = new
kept m (Err k) = m

abbrev pub mask_answer : Masks → Access → Result ℕ Kind
mask_answer m (ReadByte by addr) = register_of m addr
mask_answer m (ReadWord by addr) = word_of m addr
mask_answer m (WriteByte by addr n) = accepted (with_register m addr n)
mask_answer m (WriteWord by addr n) = accepted (with_word m addr n)
mask_answer m (SetMasks new) = if is_wsr new.wsr then Ok 0 else Err BadWindow

abbrev pub mask_after : Masks → Access → Masks
mask_after m (ReadByte by addr) = m
mask_after m (ReadWord by addr) = m
mask_after m (WriteByte by addr n) = kept m (with_register m addr n)
mask_after m (WriteWord by addr n) = kept m (with_word m addr n)
mask_after m (SetMasks new) = new

abbrev pub masks_alone : Meaning Masks
masks_alone = record { answer = mask_answer; after = mask_after; refused = λ m r. m; masks = λ m. m }

abbrev pub flat_meaning : Meaning (Beside Masks)
flat_meaning = beside masks_alone

pub flat_is_lawful : IsLawful held_of flat_meaning (λ h. length h.bytes ≡ 65536) (λ h addr. slice_index h.bytes addr) put
flat_is_lawful = beside_is_lawful held_of masks_alone (λ flat. omega (arith, flat.bytes.ok.0, flat.long)) (λ r m. refl) (λ r m. refl)
