-- Bytes that lead on to a place.
use Rattle.std.proofs.Common.{◌≡◌, ℕ, zero, suc, ◌+◌, refl, arith}
use Rattle.std.specs.Prelude.{replicate, List}
use Rattle.kc_obj_module.specs.declared.parts.SegKind.{SegKind}
use Rattle.kc_obj_module.specs.declared.parts.SegKind.TheVariants.{Reg, Code, Ram, Stack}
use Rattle.kc_asm_encode.specs.declared.relocatable_byte.RelocatableByte.{RelocatableByte}
use Rattle.kc_asm_encode.specs.declared.relocatable_byte.RelocatableByte.TheVariants.{Plain}
use Rattle.kc_asm_section.specs.Section.{Section, put, laid}
use Rattle.kc_asm_unlinked_laws.specs.Collecting.{led}

abbrev filling : ℕ → List RelocatableByte
filling n = replicate n (Plain 255)

pub laid_more : (m n : ℕ) (t : Section) → n ≡ suc m → laid (replicate m (Plain 255)) (put (Plain 255) t) ≡ laid (replicate n (Plain 255)) t
unfolding laid
laid_more m n t next = rw next refl

pub laid_none : (n : ℕ) (t : Section) → n ≡ 0 → laid (replicate n (Plain 255)) t ≡ t
unfolding laid
laid_none n t none = rw none refl

laid_length : (n : ℕ) (t : Section) → (laid (filling n) t).length ≡ t.length + n
unfolding laid
laid_length zero t = omega arith
laid_length (suc n) t = let rest : (laid (filling n) (put (Plain 255) t)).length ≡ t.length + 1 + n = laid_length n (put (Plain 255) t) in omega (arith, rest)

pub led_length : (kind : SegKind) (n : ℕ) (t : Section) → (led kind n t).length ≡ t.length + n
led_length Code n t = laid_length n t
led_length Reg n t = refl
led_length Ram n t = refl
led_length Stack n t = refl
