-- The memory from 0018H on, and what a bus keeps to there (80C196KC User's Manual, "Memory Map"; the ROM and the hole are this
-- kit's own).
use Rattle.std.specs.Prelude.{◌≡◌, ℕ, Bool, ◌+◌, ◌*◌, ◌/◌, ◌%◌, ◌^◌, ◌<◌, ◌≤◌, ◌==◌, nat_lt, nat_le, ◌&&◌, if◌then◌else◌, Result, Ok, Err}
use Rattle.kc_base.specs.Limits.{hole_start, image_start, rom_end}
use Rattle.kc_base.specs.declared.types.Kind.{Kind}
use Rattle.kc_base.specs.declared.types.Kind.TheVariants.{OddWord, RomWrite, OutsideMap, BadWindow}
use Rattle.kc_exec_spec.specs.declared.access.Master.{Master}
use Rattle.kc_exec_spec.specs.declared.access.Masks.{Masks}
use Rattle.kc_exec_spec.specs.Access.{Access, ReadByte, ReadWord, WriteByte, WriteWord, SetMasks}
use Rattle.kc_exec_spec.specs.Effect.{Meaning}
use Rattle.kc_exec_spec.specs.Window.{is_wsr}

abbrev pub is_hole : ℕ → Bool
is_hole addr = nat_le hole_start addr && nat_lt addr image_start

abbrev pub is_rom : ℕ → Bool
is_rom addr = nat_le image_start addr && nat_lt addr rom_end

abbrev pub if_even : ℕ → Result ℕ Kind → Result ℕ Kind
if_even addr r = if addr % 2 == 1 then Err OddWord else r

-- what a read of memory answers, where n stands there
abbrev pub reads : ℕ → ℕ → Result ℕ Kind
reads addr n = if is_hole addr then Err OutsideMap else Ok n

-- what a write of memory answers
abbrev pub writes : ℕ → Result ℕ Kind
writes addr = if is_hole addr then Err OutsideMap else if is_rom addr then Err RomWrite else Ok 0

-- an address that is no special function register
abbrev pub IsMemory : ℕ → Type 0
IsMemory addr = (24 ≤ addr) × (addr < 2 ^ 16)

abbrev pub IsOfRegister : Access → Type 0
IsOfRegister (ReadByte by addr) = addr < 24
IsOfRegister (ReadWord by addr) = addr < 24
IsOfRegister (WriteByte by addr n) = addr < 24
IsOfRegister (WriteWord by addr n) = addr < 24
IsOfRegister (SetMasks m) = Unit {0}

-- Memory is bytes apart from the registers: byte reads one, and put changes one. What a bus holds is whole.
pub record IsLawful {B H : Type 0} (held : B → H) (bus : Meaning H) (IsWhole : H → Type 0) (byte : H → ℕ → ℕ) (put : H → ℕ → ℕ → H) : Type 0 where
  pub whole : (b : B) → IsWhole (held b)
  pub read_byte : (h : H) (by : Master) (addr : ℕ) → IsMemory addr → bus.answer h (ReadByte by addr) ≡ reads addr (byte h addr)
  pub read_word : (h : H) (by : Master) (addr : ℕ) → IsMemory addr → bus.answer h (ReadWord by addr) ≡ if_even addr (reads addr (byte h addr + 256 * byte h (addr + 1)))
  pub write_byte : (h : H) (by : Master) (addr n : ℕ) → IsMemory addr → bus.answer h (WriteByte by addr n) ≡ writes addr
  pub write_word : (h : H) (by : Master) (addr n : ℕ) → IsMemory addr → bus.answer h (WriteWord by addr n) ≡ if_even addr (writes addr)
  pub after_read_byte : (h : H) (by : Master) (addr : ℕ) → IsMemory addr → bus.after h (ReadByte by addr) ≡ h
  pub after_read_word : (h : H) (by : Master) (addr : ℕ) → IsMemory addr → bus.after h (ReadWord by addr) ≡ h
  pub after_write_byte : (h : H) (by : Master) (addr n : ℕ) → IsMemory addr → bus.after h (WriteByte by addr n) ≡ put h addr n
  pub after_write_word : (h : H) (by : Master) (addr n : ℕ) → IsMemory addr → bus.after h (WriteWord by addr n) ≡ put (put h addr (n % 256)) (addr + 1) (n / 256)
  pub byte-put : (h : H) (addr n x : ℕ) → IsWhole h → IsMemory addr → IsMemory x → byte (put h addr n) x ≡ (if x == addr then n else byte h x)
  -- a write of memory leaves what every register answers and does
  pub answer-put : (h : H) (addr n : ℕ) (r : Access) → IsOfRegister r → bus.answer (put h addr n) r ≡ bus.answer h r
  pub after-put : (h : H) (addr n : ℕ) (r : Access) → IsOfRegister r → bus.after (put h addr n) r ≡ put (bus.after h r) addr n
  pub masks-put : (h : H) (addr n : ℕ) → bus.masks (put h addr n) ≡ bus.masks h
  pub byte-after : (h : H) (r : Access) (x : ℕ) → IsOfRegister r → byte (bus.after h r) x ≡ byte h x
  pub set_masks : (h : H) (m : Masks) → bus.answer h (SetMasks m) ≡ (if is_wsr m.wsr then Ok 0 else Err BadWindow)
  -- INT_MASK is a byte
  pub masks-after : (h : H) (m : Masks) → m.int_mask < 2 ^ 8 → bus.masks (bus.after h (SetMasks m)) ≡ m
