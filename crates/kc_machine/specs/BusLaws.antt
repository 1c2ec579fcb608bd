-- The laws of the machine's bus (80C196KC User's Manual, "Memory Map").
use Rattle.std.proofs.Common.{◌≡◌, ℕ, ◌+◌, ◌*◌, ◌/◌, ◌%◌, ◌^◌, ◌<◌, arith, refl}
use Rattle.std.specs.Prelude.{slice_index, slice_set, length, nat_lt, ◌==◌, if◌then◌else◌, false, true, List}
use Rattle.std.proofs.lemmas.Grind.{common_steps}
use Rattle.kc_exec_spec.specs.declared.access.Masks.{Masks}
use Rattle.kc_exec_spec.specs.declared.access.Access.{Access}
use Rattle.kc_exec_spec.specs.declared.access.Access.TheVariants.{ReadByte, ReadWord, WriteByte, WriteWord, SetMasks}
use Rattle.kc_exec_spec.specs.Memory.{IsLawful, IsMemory, IsOfRegister}
use Rattle.kc_machine_spec.specs.Scene.{Scene, with_units, byte, put, scene_answer, after_by}
use Rattle.kc_machine_spec.specs.Board.{masks_of}
use Rattle.kc_machine.specs.declared.common.Common.{Common}
use Rattle.kc_extra.specs.Further.{Further}
use Rattle.kc_extra.specs.declared.extra.Extra as extra
use Rattle.kc_machine.specs.Keeping.{fitting}
use Rattle.kc_machine.specs.Bus.{bus_meaning, held_of}

is_memory : (addr : ℕ) → IsMemory addr → nat_lt addr 24 ≡ false
is_memory addr m = grind (arith, common_steps)

is_register : (addr : ℕ) → addr < 24 → nat_lt addr 24 ≡ true
is_register addr m = grind (arith, common_steps)

index-set : (bytes : List ℕ) (addr n x : ℕ) → addr < length bytes → slice_index (slice_set bytes addr n) x ≡ (if x == addr then n else slice_index bytes x)
index-set bytes addr n x inside = grind (arith, common_steps)

pub common_is_whole : {X : Type 0} {d : extra.Ghosts X} (common : Common X d) → length (held_of common).board.memory ≡ 65536
common_is_whole common = omega (arith, common.memory.ok.0, common.long)

module _ {X : Type 0} (f : Further X) where
  answer-put : (s : Scene X) (addr n : ℕ) (r : Access) → IsOfRegister r → scene_answer f (put s addr n) r ≡ scene_answer f s r
  answer-put s addr n (ReadByte by a) m = let on = is_register a m in rw on
  answer-put s addr n (ReadWord by a) m = let on = is_register a m in rw on
  answer-put s addr n (WriteByte by a v) m = let on = is_register a m in rw on
  answer-put s addr n (WriteWord by a v) m = let on = is_register a m in rw on
  answer-put s addr n (SetMasks masks) m = refl

  after-put : (s : Scene X) (addr n : ℕ) (r : Access) → IsOfRegister r → after_by f fitting (put s addr n) r ≡ put (after_by f fitting s r) addr n
  unfolding with_units
  after-put s addr n (ReadByte by a) m = let on = is_register a m in rw on
  after-put s addr n (ReadWord by a) m = let on = is_register a m in rw on
  after-put s addr n (WriteByte by a v) m = let on = is_register a m in rw on
  after-put s addr n (WriteWord by a v) m = let on = is_register a m in rw on
  after-put s addr n (SetMasks masks) m = refl

  byte-after : (s : Scene X) (r : Access) (x : ℕ) → IsOfRegister r → byte (after_by f fitting s r) x ≡ byte s x
  unfolding with_units
  byte-after s (ReadByte by a) x m = let on = is_register a m in rw on
  byte-after s (ReadWord by a) x m = let on = is_register a m in rw on
  byte-after s (WriteByte by a v) x m = let on = is_register a m in rw on
  byte-after s (WriteWord by a v) x m = let on = is_register a m in rw on
  byte-after s (SetMasks masks) x m = refl

  -- INT_MASK is the low byte of a word
  masks-after : (s : Scene X) (m : Masks) → m.int_mask < 2 ^ 8 → masks_of (after_by f fitting s (SetMasks m)).board.units ≡ m
  unfolding with_units
  masks-after s m byte =
      let low : (m.int_mask + 256 * m.int_mask1) % 256 ≡ m.int_mask = omega arith in
      let high : (m.int_mask + 256 * m.int_mask1) / 256 ≡ m.int_mask1 = omega arith in
      λ i. record { int_mask = low i; int_mask1 = high i; wsr = m.wsr }

  pub bus_is_lawful : {B : Type 0} (held : B → Scene X) → ((b : B) → length (held b).board.memory ≡ 65536) → IsLawful held (bus_meaning f) (λ s. length s.board.memory ≡ 65536) byte put
  bus_is_lawful held whole = record {
    whole = whole;
    read_byte = λ s by addr m. let off = is_memory addr m in rw off;
    read_word = λ s by addr m. let off = is_memory addr m in rw off;
    write_byte = λ s by addr n m. let off = is_memory addr m in rw off;
    write_word = λ s by addr n m. let off = is_memory addr m in rw off;
    after_read_byte = λ s by addr m. let off = is_memory addr m in rw off;
    after_read_word = λ s by addr m. let off = is_memory addr m in rw off;
    after_write_byte = λ s by addr n m. let off = is_memory addr m in rw off;
    after_write_word = λ s by addr n m. let off = is_memory addr m in rw off;
    byte-put = λ s addr n x w m mx. index-set s.board.memory addr n x (omega arith);
    answer-put = answer-put;
    after-put = after-put;
    masks-put = λ s addr n. refl;
    byte-after = byte-after;
    set_masks = λ s m. refl;
    masks-after = masks-after;
  }
