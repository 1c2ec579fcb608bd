-- A piece grows by whole stretches: what a statement leads over or puts there are relocatable bytes throughout, or there are none.
use Rattle.std.proofs.Common.{◌≡◌, ℕ, zero, suc, ◌+◌, ◌-◌, ◌%◌, ◌<◌, ◌≤◌, Bool, true, false, cond, ltb, List, [], ◌∷◌, replicate, length, refl, ap, ◌∙◌, arith}
use Rattle.std.specs.Prelude.{is_some, slice_get}
use Rattle.std.proofs.lemmas.Bool.Decides.{nat_tests}
use Rattle.kc_obj_module.specs.declared.parts.SegKind.{SegKind}
use Rattle.kc_obj_module.specs.declared.parts.SegKind.TheVariants.{Reg, Code, Ram, Stack}
use Rattle.kc_asm_encode.specs.declared.relocatable_byte.RelocatableByte.{RelocatableByte}
use Rattle.kc_asm_encode.specs.declared.relocatable_byte.RelocatableByte.TheVariants.{Plain}
use Rattle.kc_asm_section.specs.Section.{Section, is_section, put, skipped, laid, written, relocatable_byte_at}
use Rattle.kc_asm_section.specs.Writing.{IsLonger, WrittenStands, PutStands}
use Rattle.kc_asm_emit.specs.Content.{Content, Nothing, RelocatableBytes, Reserved, Upto, Even}
use Rattle.kc_asm_unlinked_laws.specs.Collecting.{led, put_content}
use Rattle.kc_asm_unlinked_laws.specs.Writable.{HasRoom}
use Rattle.kc_asm_unlinked_laws.proofs.Taping.{laid_section}

-- what stood stays, and behind it are relocatable bytes throughout, or none
pub record Grown (full : Bool) (t u : Section) : Type 0 where
  pub size : t.length ≤ u.length
  pub old : (o : ℕ) → o < t.length → relocatable_byte_at u o ≡ relocatable_byte_at t o
  pub new : (o : ℕ) → t.length ≤ o → o < u.length → is_some (relocatable_byte_at u o) ≡ full

same_section : (full : Bool) (t : Section) → Grown full t t
same_section full t = record { size = omega arith; old = λ o lt. refl; new = λ o le lt. absurd (omega (arith, le, lt)) }

on : (full : Bool) (t u v : Section) → Grown full t u → Grown full u v → Grown full t v
on full t u v a b = record {
  size = omega (arith, a.size, b.size);
  old = λ o lt. b.old o (omega (arith, lt, a.size)) ∙ a.old o lt;
  new = λ o le lt. by o le lt (ltb o u.length) refl;
}
  where
    by : (o : ℕ) → t.length ≤ o → o < v.length → (c : Bool) → ltb o u.length ≡ c → is_some (relocatable_byte_at v o) ≡ full
    by o le lt true is =
        let within : o < u.length = grind (arith, nat_tests, is) in
        ap is_some (b.old o within) ∙ a.new o le within
    by o le lt false is =
        let behind : u.length ≤ o = grind (arith, nat_tests, is) in
        b.new o behind lt

some_at : (os : List RelocatableByte) (k : ℕ) → k < length os → is_some (slice_get os k) ≡ true
some_at [] k lt = absurd (omega (arith, lt))
some_at (o ∷ os) zero lt = refl
some_at (o ∷ os) (suc k) lt = some_at os k (omega (arith, lt))

longer_grown : (t u : Section) (os : List RelocatableByte) → IsLonger t os u → Grown true t u
longer_grown t u os h = record {
  size = omega (arith, h.size);
  old = λ o lt.
      let is : ltb o t.length ≡ true = grind (arith, nat_tests, lt) in
      h.stand o ∙ ap (λ (b : Bool). cond b (relocatable_byte_at t o) (slice_get os (o - t.length))) is;
  new = λ o le lt.
      let is : ltb o t.length ≡ false = grind (arith, nat_tests, le) in
      ap is_some (h.stand o ∙ ap (λ (b : Bool). cond b (relocatable_byte_at t o) (slice_get os (o - t.length))) is)
      ∙ some_at os (o - t.length) (omega (arith, le, lt, h.size));
}

module _ (written_stands : WrittenStands) (put_stands : PutStands) where
  -- nothing stands behind the end
  pub beyond : (t : Section) → is_section t ≡ true → (o : ℕ) → t.length ≤ o → is_some (relocatable_byte_at t o) ≡ false
  beyond t is o le =
      let over : ltb o t.length ≡ false = grind (arith, nat_tests, le) in
      ap is_some ((written_stands t is 0 []).0.stand o ∙ ap (λ (b : Bool). cond b (relocatable_byte_at t o) (slice_get [] (o - t.length))) over)

  skipped_grown : (n : ℕ) (t : Section) → is_section t ≡ true → Grown false t (skipped n t)
  skipped_grown n t is = record { size = omega arith; old = λ o lt. refl; new = λ o le lt. beyond t is o le }

  laid_grown : (os : List RelocatableByte) (t : Section) → is_section t ≡ true → t.length + length os ≤ 65536 → Grown true t (laid os t)
  unfolding laid
  laid_grown [] t is room = same_section true t
  laid_grown (o ∷ os) t is room =
      let next : is_section (put o t) ≡ true = laid_section (o ∷ []) t (omega (arith, room)) is in
      on true t (put o t) (laid os (put o t)) (longer_grown t (put o t) (o ∷ []) (put_stands t is o)) (laid_grown os (put o t) next (omega (arith, room)))

  replicated : (n : ℕ) (x : RelocatableByte) → length (replicate n x) ≡ n
  replicated zero x = refl
  replicated (suc n) x = ap suc (replicated n x)

  abbrev is_code_kind : SegKind → Bool
  is_code_kind Code = true
  is_code_kind Reg = false
  is_code_kind Ram = false
  is_code_kind Stack = false

  led_by : (kind : SegKind) (n : ℕ) (t : Section) → is_section t ≡ true → t.length + n ≤ 65536 → Grown (is_code_kind kind) t (led kind n t)
  led_by Code n t is room = laid_grown (replicate n (Plain 255)) t is (let count = replicated n (Plain 255) in omega (arith, room, count))
  led_by Reg n t is room = skipped_grown n t is
  led_by Ram n t is room = skipped_grown n t is
  led_by Stack n t is room = skipped_grown n t is

  pub led_grown : (kind : SegKind) (n : ℕ) (t : Section) → is_section t ≡ true → t.length + n ≤ 65536 → (full : Bool) × Grown full t (led kind n t)
  led_grown kind n t is room = (is_code_kind kind, led_by kind n t is room)

  pub put_grown : (line : ℕ) (kind : SegKind) (place : ℕ) (c : Content) (t : Section) → is_section t ≡ true → HasRoom t.length c place → (full : Bool) × Grown full t (put_content line kind place c t)
  put_grown line kind place Nothing t is room = (true, same_section true t)
  put_grown line kind place (RelocatableBytes os) t is room = (true, longer_grown t (written line os t) os (written_stands t is line os).0)
  put_grown line kind place (Reserved n) t is room = (false, skipped_grown n t is)
  put_grown line kind place (Upto to) t is room = (false, skipped_grown (to - place) t is)
  put_grown line kind place Even t is room = led_grown kind (place % 2) t is room
