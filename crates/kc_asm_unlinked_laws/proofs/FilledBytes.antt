-- The byte that the linker makes of a module's byte and relocations is the filled relocatable byte of the unlinked module.
use Rattle.std.proofs.Common.{◌≡◌, ℕ, suc, ◌+◌, ◌%◌, Bool, true, false, eqb, Option, Some, None, refl, ap, ◌∙◌, subst, arith}
use Rattle.std.specs.Prelude.{if◌then◌else◌}
use Rattle.std.proofs.lemmas.Bool.Decides.{nat_tests}
use Rattle.kc_expr.specs.declared.values.Value.{Value}
use Rattle.kc_expr.specs.declared.values.Base.{Base}
use Rattle.kc_expr.specs.declared.values.Base.TheVariants.{Fixed, Absolute, Piece, External}
use Rattle.kc_obj_module.specs.Pieces.{kind_number}
use Rattle.kc_obj_module.specs.Numbers.{Bases, distance, is_distance, number, reach, width, second_part}
use Rattle.kc_asm_section.specs.Section.{Section}
use Rattle.kc_asm_encode.specs.declared.relocatable_byte.RelocatableByte.{RelocatableByte}
use Rattle.kc_asm_encode.specs.declared.relocatable_byte.RelocatableByte.TheVariants.{Plain, First, Second}
use Rattle.kc_asm_encode.specs.Filling.{base_address, address, fill}
use Rattle.kc_asm_encode.specs.Relocating.{counts, leaves, depends, no_bases, shown, relocated}
use Rattle.kc_link_place.specs.Filled.{target_number, first_of_fixup, second_of_fixup}
use Rattle.kc_asm_section.specs.Order.{start_of, relocation}
use Rattle.kc_asm_section.specs.ModuleOf.{fixup_from}
use Rattle.kc_asm_section.specs.Puts.{target_of, fixup_for}

-- what is known of a part: its base, or its address
pub record IsPlaced (b : Bases) (at : Option ℕ) (own start : ℕ) : Type 0 where
  pub relocatable : at ≡ None → b.piece own ≡ start
  pub absolute : (x : ℕ) → at ≡ Some x → start ≡ x

-- ---- a number that does not depend on a base is the same under all

shifted : (base n from : ℕ) → distance ((base + n) % 65536) (base + from) ≡ distance ((0 + n) % 65536) (0 + from)
unfolding distance
shifted base n from = omega arith

same_leaves : (b : Bases) (at : Option ℕ) (own start : ℕ) (v : Base) (n offset : ℕ) → IsPlaced b at own start → leaves at own v ≡ false →
    distance (base_address b v n) (start + offset) ≡ distance (base_address no_bases v n) (start_of at + offset)
same_leaves b None own start Fixed n offset h e = absurd (cc e)
same_leaves b None own start Absolute n offset h e = absurd (cc e)
same_leaves b None own start (Piece p) n offset h e =
    let k : p ≡ own = grind (arith, nat_tests, e) in
    let s : b.piece p ≡ start = ap b.piece k ∙ h.relocatable refl in
    subst (λ (x : ℕ). distance ((b.piece p + n) % 65536) (x + offset) ≡ distance ((0 + n) % 65536) (0 + offset)) s (shifted (b.piece p) n offset)
same_leaves b None own start (External x) n offset h e = absurd (cc e)
same_leaves b (Some a) own start Fixed n offset h e = rw (h.absolute a refl) refl
same_leaves b (Some a) own start Absolute n offset h e = rw (h.absolute a refl) refl
same_leaves b (Some a) own start (Piece p) n offset h e = absurd (cc e)
same_leaves b (Some a) own start (External x) n offset h e = absurd (cc e)

same_counts : (b : Bases) (v : Base) (n : ℕ) → counts v ≡ false → base_address b v n ≡ base_address no_bases v n
same_counts b Fixed n e = refl
same_counts b Absolute n e = refl
same_counts b (Piece p) n e = absurd (cc e)
same_counts b (External x) n e = absurd (cc e)

same_by : (b : Bases) (at : Option ℕ) (own start kind : ℕ) (v : Base) (n offset : ℕ) → IsPlaced b at own start → (d : Bool) → is_distance kind ≡ d → depends kind at own v ≡ false →
    number kind (start + offset) (base_address b v n) ≡ number kind (start_of at + offset) (base_address no_bases v n)
unfolding number depends
same_by b at own start kind v n offset h true i e = let f : leaves at own v ≡ false = rw i at e in rw i (same_leaves b at own start v n offset h f)
same_by b at own start kind v n offset h false i e = let f : counts v ≡ false = rw i at e in rw i (same_counts b v n f)

pub same_number : (b : Bases) (at : Option ℕ) (own start kind : ℕ) (v : Value) (offset : ℕ) → IsPlaced b at own start → depends kind at own v.base ≡ false →
    number kind (start + offset) (address b v) ≡ number kind (start_of at + offset) (address no_bases v)
same_number b at own start kind v offset h e = same_by b at own start kind v.base v.number offset h (is_distance kind) refl e

-- ---- the pieces have their numbers in the module

abbrev pub renumbered : Bases → (ℕ → ℕ) → Bases
renumbered c number = record { piece = λ p. c.piece (number p); external = c.external }

pub same_target : (c : Bases) (n : ℕ → ℕ) (v : Base) (k : ℕ) → target_number c (target_of n v) k ≡ base_address (renumbered c n) v k
same_target c n Fixed k = refl
same_target c n Absolute k = refl
same_target c n (Piece p) k = refl
same_target c n (External x) k = refl

-- ---- what relocations put

wide_reach : (kind : ℕ) → width kind ≡ 2 → reach kind ≡ 2
wide_reach kind e = grind (arith, nat_tests, e)

module _ (c : Bases) (n : ℕ → ℕ) (t : Section) (piece place : ℕ) where
  abbrev pub own_second : ℕ → Value → ℕ
  own_second kind v = if depends kind t.at (kind_number t.kind) v.base then second_part kind (number kind (place + 2) (address (renumbered c n) v)) else 0

  pub second_by : (offset kind begin : ℕ) (v : Value) (d : Bool) → depends kind t.at (kind_number t.kind) v.base ≡ d → width kind ≡ 2
      → second_of_fixup c place (fixup_from n t piece offset (Some (First kind begin v))) ≡ own_second kind v
  unfolding relocated
  second_by offset kind begin v true d w = rw (d, w, wide_reach kind w, same_target c n v.base v.number) refl
  second_by offset kind begin v false d w = rw d refl

  narrow_by : (offset kind begin : ℕ) (v : Value) (d w : Bool) → depends kind t.at (kind_number t.kind) v.base ≡ d → eqb (width kind) 2 ≡ w → (width kind ≡ 2 → ⊥)
      → second_of_fixup c place (fixup_from n t piece offset (Some (First kind begin v))) ≡ 0
  unfolding relocated
  narrow_by offset kind begin v d true e w h = absurd (h (grind (arith, nat_tests, w)))
  narrow_by offset kind begin v true false e w h = rw (e, w) refl
  narrow_by offset kind begin v false false e w h = rw e refl

  -- nothing is put behind what is no first byte of a number of two bytes
  pub no_second : (offset : ℕ) (y : Option RelocatableByte) → ((kind begin : ℕ) (v : Value) → y ≡ Some (First kind begin v) → width kind ≡ 2 → ⊥)
      → second_of_fixup c place (fixup_from n t piece offset y) ≡ 0
  unfolding relocated
  no_second offset None h = refl
  no_second offset (Some (Plain x)) h = refl
  no_second offset (Some (First kind begin v)) h = narrow_by offset kind begin v (depends kind t.at (kind_number t.kind) v.base) (eqb (width kind) 2) refl refl (h kind begin v refl)
  no_second offset (Some (Second kind v)) h = refl

-- ---- a byte and what is put at it

module _ (c : Bases) (n : ℕ → ℕ) (t : Section) (piece start : ℕ) (placed : IsPlaced (renumbered c n) t.at (kind_number t.kind) start) where
  abbrev pub whole : ℕ → RelocatableByte → ℕ
  whole offset relocatable_byte = fill (renumbered c n) (start + offset) relocatable_byte

  pub plain_total : (offset y : ℕ) → shown t.at (kind_number t.kind) (start_of t.at + offset) (Plain y) + (first_of_fixup c (start + offset) (fixup_for n piece offset (relocation t (Plain y))) + 0) ≡ whole offset (Plain y)
  unfolding shown relocated fill
  plain_total offset y = omega arith

  pub first_total : (offset kind begin : ℕ) (v : Value) (d : Bool) → depends kind t.at (kind_number t.kind) v.base ≡ d
      → shown t.at (kind_number t.kind) (start_of t.at + offset) (First kind begin v) + (first_of_fixup c (start + offset) (fixup_for n piece offset (relocation t (First kind begin v))) + 0) ≡ whole offset (First kind begin v)
  unfolding shown relocated fill
  first_total offset kind begin v true d = rw (d, same_target c n v.base v.number) (omega arith)
  first_total offset kind begin v false d =
      let e : (start + offset) + reach kind ≡ start + (offset + reach kind) = omega arith in
      let f : (start_of t.at + offset) + reach kind ≡ start_of t.at + (offset + reach kind) = omega arith in
      rw (d, e, f, same_number (renumbered c n) t.at (kind_number t.kind) start kind v (offset + reach kind) placed d) (omega arith)

  pub second_total : (before kind : ℕ) (v : Value) (d : Bool) → depends kind t.at (kind_number t.kind) v.base ≡ d
      → shown t.at (kind_number t.kind) (start_of t.at + suc before) (Second kind v)
      + (first_of_fixup c (start + suc before) (fixup_for n piece (suc before) (relocation t (Second kind v))) + own_second c n t piece (start + before) kind v)
      ≡ whole (suc before) (Second kind v)
  unfolding shown relocated fill
  second_total before kind v true d =
      let e : (start + suc before) + 1 ≡ (start + before) + 2 = omega arith in
      rw (d, e) (omega arith)
  second_total before kind v false d =
      let e : (start + suc before) + 1 ≡ start + (suc before + 1) = omega arith in
      let f : (start_of t.at + suc before) + 1 ≡ start_of t.at + (suc before + 1) = omega arith in
      rw (d, e, f, same_number (renumbered c n) t.at (kind_number t.kind) start kind v (suc before + 1) placed d) (omega arith)
