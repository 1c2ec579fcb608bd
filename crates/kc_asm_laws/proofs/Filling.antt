-- What is filled from relocatable bytes whose numbers are words are bytes.
use Rattle.std.proofs.Common.{◌≡◌, ℕ, zero, suc, ◌+◌, ◌/◌, ◌%◌, ◌<◌, Bool, true, false, cond, ◌&&◌, ◌||◌, ◌==◌, List, [], ◌∷◌, refl, subst, arith}
use Rattle.std.specs.Prelude.{Some, nat_le, slice_get}
use Rattle.std.specs.List.{AllByRecursion}
use Rattle.std.proofs.lemmas.Bool.{and_parts}
use Rattle.std.proofs.lemmas.Bool.Decides.{nat_tests}
use Rattle.kc_expr.specs.declared.values.Base.{Base}
use Rattle.kc_expr.specs.declared.values.Base.TheVariants as bases
use Rattle.kc_obj_module.specs.Numbers.{Bases, is_distance, distance, number, reach, first_part, second_part}
use Rattle.kc_obj_module.specs.Fixups.{may_begin}
use Rattle.kc_asm_encode.specs.declared.relocatable_byte.RelocatableByte.{RelocatableByte}
use Rattle.kc_asm_encode.specs.declared.relocatable_byte.RelocatableByte.TheVariants as relocatable_bytes
use Rattle.kc_asm_encode.specs.Filling.{base_address, address, fill}
use Rattle.kc_asm_section.specs.declared.part.PlacedByte.{PlacedByte}
use Rattle.kc_asm_section.specs.Section.{placed_byte_at}
use Rattle.kc_asm_section.specs.UnlinkedModules.{base_exists, is_relocatable_byte, AreRelocatableBytes}
use Rattle.kc_asm_laws.proofs.RelocatableBytes.{IsGoodRelocatableByte}

begins : (kind start : ℕ) (b : Bool) → (kind == 3) ≡ b → cond b ((start == 0x20) || (start == 0x28)) (start == 0) ≡ true → (n : ℕ) → start + cond b (n % 2048 / 256) (n % 256) < 256
begins kind start true e h n = let low : start < 41 = grind (arith, nat_tests, h) in omega (arith, low)
begins kind start false e h n = let low : start ≡ 0 = grind (arith, nat_tests, h) in omega (arith, low)

first_byte : (kind start n : ℕ) → may_begin kind (Some start) ≡ true → start + first_part kind n < 256
unfolding first_part
first_byte kind start n h = begins kind start (kind == 3) refl h n

second_by : (b : Bool) (n : ℕ) → n < 65536 → cond b (n % 256) (n / 256) < 256
second_by true n h = omega arith
second_by false n h = omega (arith, h)

second_byte : (kind n : ℕ) → n < 65536 → second_part kind n < 256
unfolding second_part
second_byte kind n h = second_by (kind == 3) n h

number_by : (b : Bool) (next to : ℕ) → to < 65536 → cond b (distance to next) to < 65536
unfolding distance
number_by true next to h = omega arith
number_by false next to h = h

number_word : (kind next to : ℕ) → to < 65536 → number kind next to < 65536
unfolding number
number_word kind next to h = number_by (is_distance kind) next to h

base_word : (b : Bases) (base : Base) (n : ℕ) → n < 65536 → base_address b base n < 65536
base_word b bases.Fixed n h = h
base_word b bases.Absolute n h = h
base_word b (bases.Piece p) n h = omega arith
base_word b (bases.External e) n h = omega arith

pub fill_byte : (externals : ℕ) (b : Bases) (place : ℕ) (o : RelocatableByte) → is_relocatable_byte externals o ≡ true → IsGoodRelocatableByte o → fill b place o < 256
unfolding fill
fill_byte externals b place (relocatable_bytes.Plain n) e h = h
fill_byte externals b place (relocatable_bytes.First kind start v) e h =
    let prefix = (and_parts (nat_le kind 4 && may_begin kind (Some start)) (base_exists externals v.base) e).0 in
    first_byte kind start (number kind (place + reach kind) (address b v)) (and_parts (nat_le kind 4) (may_begin kind (Some start)) prefix).1
fill_byte externals b place (relocatable_bytes.Second kind v) e h = second_byte kind (number kind (place + 1) (address b v)) (number_word kind (place + 1) (address b v) (base_word b v.base v.number h))

-- ---- relocatable bytes of a part

pub relocatable_is : (externals : ℕ) (placed_bytes : List PlacedByte) (offset : ℕ) (o : RelocatableByte) → AreRelocatableBytes externals placed_bytes → placed_byte_at placed_bytes offset ≡ Some o → is_relocatable_byte externals o ≡ true
unfolding AreRelocatableBytes placed_byte_at
relocatable_is externals [] offset o h e = absurd (cc e)
relocatable_is externals (c ∷ cs) offset o h e = by (c.offset == offset) refl e (λ f. relocatable_is externals cs offset o h.2 f)
  where
    by : (b : Bool) → (c.offset == offset) ≡ b → cond b (Some c.relocatable_byte) (placed_byte_at cs offset) ≡ Some o → (placed_byte_at cs offset ≡ Some o → is_relocatable_byte externals o ≡ true) → is_relocatable_byte externals o ≡ true
    by true q f later = let same : c.relocatable_byte ≡ o = cc f in subst (λ (x : RelocatableByte). is_relocatable_byte externals x ≡ true) same h.0
    by false q f later = later f

pub each_at : {A : Type 0} (P : A → Type 0) (xs : List A) (i : ℕ) (x : A) → AllByRecursion P xs → slice_get xs i ≡ Some x → P x
each_at P [] i x h e = absurd (cc e)
each_at P (y ∷ xs) zero x h e = let same : y ≡ x = cc e in subst P same h.0
each_at P (y ∷ xs) (suc i) x h e = each_at P xs i x h.1 e
