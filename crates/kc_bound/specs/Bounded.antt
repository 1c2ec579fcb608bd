-- The most states of a pass, for every input (this kit's own).
use Rattle.std.specs.Prelude.{◌≡◌, ℕ, ◌+◌, ◌-◌, ◌≤◌, true, List, length, slice_index}
use Rattle.kc_base.specs.Bytes.{IsBytes}
use Rattle.kc_base.specs.Limits.{image_start}
use Rattle.kc_exec_spec.specs.Memory.{is_rom}
use Rattle.kc_extra.specs.Further.{Further}
use Rattle.kc_machine_spec.specs.Machine.{Machine}
use Rattle.kc_bound.specs.declared.notes.Notes.{Notes}
use Rattle.kc_bound.specs.declared.certificate.Certificate.{Certificate}
use Rattle.kc_bound.specs.declared.certificate.Bound.{Bound}
use Rattle.kc_bound.specs.Passes.{moment, is_over, IsPass}
use Rattle.kc_bound.specs.Premises.{ReturnsProperly, KeepsNotes}
use Rattle.kc_bound.specs.Certified.{Shows}

-- the bytes of an image, from 2000H to FFFFH
pub record IsImage (image : List ℕ) : Type 0 where
  pub bytes : IsBytes image
  pub whole : length image ≡ 0xE000

-- a machine whose ROM is an image; its registers, its other memory and its units are anything
pub record HoldsImage {X : Type 0} (image : List ℕ) (m : Machine X) : Type 0 where
  pub whole : length m.board.memory ≡ 0x10000
  pub rom : (a : ℕ) → is_rom a ≡ true → slice_index m.board.memory a ≡ slice_index image (a - image_start)

-- from a machine so many activities are a pass from an address, in which the premises hold
pub record IsPassFrom {X : Type 0} (f : Further X) (image : List ℕ) (notes : Notes) (from n : ℕ) (m : Machine X) : Type 0 where
  pub rom : HoldsImage image m
  pub begins : m.cpu.pc ≡ from
  pub pass : IsPass f notes n m
  pub returns : ReturnsProperly f n m
  pub keeps : KeepsNotes f notes n m

-- each pass has taken at most so many states where it is over, and at most so many at any moment
pub record Bounded {X : Type 0} (f : Further X) (image : List ℕ) (notes : Notes) (from : ℕ) (b : Bound) : Type 0 where
  pub over : (n : ℕ) (m : Machine X) → IsPassFrom f image notes from n m → is_over f notes n m ≡ true → (moment f n m).time ≤ m.time + b.over
  pub always : (n : ℕ) (m : Machine X) → IsPassFrom f image notes from n m → (moment f n m).time ≤ m.time + b.always

-- what a certificate shows is so
abbrev pub CertifiedIsBounded : Type 0 → Type 0
CertifiedIsBounded X =
    (f : Further X) (image : List ℕ) (notes : Notes) (from : ℕ) (c : Certificate) (b : Bound)
    → IsImage image → Shows image notes from c b → Bounded f image notes from b
