-- What is put of a piece is sound.
use Rattle.std.proofs.Common.{◌≡◌, ℕ, ◌+◌, ◌<◌, Bool, true, false, ◌&&◌, eqb, ltb, leb, if◌then◌else◌, Option, Some, None, List, [], ◌∷◌, ◌++◌, map, length, refl, ap, arith}
use Rattle.std.specs.List.{list_all}
use Rattle.std.proofs.lemmas.Bool.{and_parts}
use Rattle.std.proofs.lemmas.Bool.Decides.{nat_tests}
use Rattle.kc_expr.specs.declared.values.Base.{Base}
use Rattle.kc_expr.specs.declared.values.Base.TheVariants.{Fixed, Absolute, Piece, External}
use Rattle.kc_expr.specs.declared.values.Value.{Value}
use Rattle.kc_obj_module.specs.declared.parts.Segment.{Segment}
use Rattle.kc_obj_module.specs.declared.parts.Taken.{Taken}
use Rattle.kc_obj_module.specs.Pieces.{kind_number}
use Rattle.kc_obj_module.specs.Numbers.{width}
use Rattle.kc_obj_module.specs.Fixups.{fixup_is_sound, may_begin, target_exists}
use Rattle.kc_asm_encode.specs.declared.relocatable_byte.RelocatableByte.{RelocatableByte}
use Rattle.kc_asm_encode.specs.declared.relocatable_byte.RelocatableByte.TheVariants.{Plain, First, Second}
use Rattle.kc_asm_encode.specs.Relocating.{is_piece, depends, leaves, shown, relocated}
use Rattle.kc_asm_section.specs.declared.part.PlacedByte.{PlacedByte}
use Rattle.kc_asm_section.specs.Section.{Section, placed_byte}
use Rattle.kc_asm_section.specs.declared.puts.Put.{Put}
use Rattle.kc_asm_section.specs.Order.{start_of, relocation, aims_at}
use Rattle.kc_asm_section.specs.Puts.{put_of, fixup_for, target_of}
use Rattle.kc_asm_section.specs.Runs.{listed}
use Rattle.kc_asm_section.specs.UnlinkedModules.{base_exists, is_relocatable_byte, BeginsWithSecond, IsComplete, AreRelocatableBytes}
use Rattle.kc_asm_section.proofs.RunOrder.{both}
use Rattle.kc_asm_section.proofs.Fixing.{NextFree, Fits, AllFit}

-- ---- a relocation has room in its bytes

module _ (number : ℕ → ℕ) (piece : ℕ) (t : Section) where
  abbrev at_own : ℕ → Base → Bool
  at_own kind base = depends kind t.at (kind_number t.kind) base

  first_shown : (place kind start : ℕ) (v : Value) → at_own kind v.base ≡ true → shown t.at (kind_number t.kind) place (First kind start v) ≡ start
  unfolding shown
  first_shown place kind start v h = rw h refl

  second_shown : (place kind : ℕ) (v : Value) → at_own kind v.base ≡ true → shown t.at (kind_number t.kind) place (Second kind v) ≡ 0
  unfolding shown
  second_shown place kind v h = rw h refl

  second_plain : (offset kind : ℕ) (v : Value) → fixup_for number piece offset (relocation t (Second kind v)) ≡ None
  unfolding relocated
  second_plain offset kind v = refl

  second_free : (o : ℕ) (first : RelocatableByte) (cs : List PlacedByte) (rest : List Put) (kind : ℕ) (v : Value) → at_own kind v.base ≡ true → BeginsWithSecond kind (o + 1) v cs
      → NextFree (put_of number piece t (placed_byte o first)) (map (put_of number piece t) cs ++ rest)
  second_free o first [] rest kind v h second = absurd second
  second_free o first (d ∷ ds) rest kind v h second =
      let offset : d.offset ≡ o + 1 = ap (λ (x : PlacedByte). x.offset) second in
      let relocatable_byte : d.relocatable_byte ≡ Second kind v = ap (λ (x : PlacedByte). x.relocatable_byte) second in
      (refl, offset, rw relocatable_byte (second_shown (start_of t.at + d.offset) kind v h), rw relocatable_byte (second_plain d.offset kind v))

  first_fits : (o kind start : ℕ) (v : Value) (cs : List PlacedByte) (rest : List Put) (d : Bool) → at_own kind v.base ≡ d → may_begin kind (Some start) ≡ true
      → (width kind ≡ 2 → BeginsWithSecond kind (o + 1) v cs)
      → Fits (fixup_for number piece o (if d then Some (kind, v) else None)) (put_of number piece t (placed_byte o (First kind start v))) (map (put_of number piece t) cs ++ rest)
  first_fits o kind start v cs rest false e begins second = tt
  first_fits o kind start v cs rest true e begins second =
      (refl, refl, rw (first_shown (start_of t.at + o) kind start v e) begins, λ two. second_free o (First kind start v) cs rest kind v e (second two))

  relocatable_byte_fits : (externals o : ℕ) (relocatable_byte : RelocatableByte) (cs : List PlacedByte) (rest : List Put) → is_relocatable_byte externals relocatable_byte ≡ true → IsComplete (placed_byte o relocatable_byte) cs
      → Fits (fixup_for number piece o (relocation t relocatable_byte)) (put_of number piece t (placed_byte o relocatable_byte)) (map (put_of number piece t) cs ++ rest)
  unfolding relocated
  relocatable_byte_fits externals o (Plain b) cs rest is complete = tt
  relocatable_byte_fits externals o (First kind start v) cs rest is complete =
      let parts = and_parts (leb kind 4 && may_begin kind (Some start)) (base_exists externals v.base) is in
      let begins = and_parts (leb kind 4) (may_begin kind (Some start)) parts.0 in
      first_fits o kind start v cs rest (at_own kind v.base) refl begins.1 complete
  relocatable_byte_fits externals o (Second kind v) cs rest is complete = tt

  pub placed_bytes_fit : (externals : ℕ) (placed_bytes : List PlacedByte) (rest : List Put) → AreRelocatableBytes externals placed_bytes → AllFit rest → AllFit (map (put_of number piece t) placed_bytes ++ rest)
  unfolding AreRelocatableBytes
  placed_bytes_fit externals [] rest are fit = fit
  placed_bytes_fit externals (c ∷ cs) rest are fit = (relocatable_byte_fits externals c.offset c.relocatable_byte cs rest are.0 are.1, placed_bytes_fit externals cs rest are.2 fit)

  -- ---- it is sound

  module _ (segments : List Segment) (externals : List Taken) (there : ltb piece (length segments) ≡ true) where
    -- a relocatable part that a relocation names is a piece
    abbrev Aims : RelocatableByte → Type 0
    Aims relocatable_byte = (n : ℕ) → n < 3 → aims_at n (relocation t relocatable_byte) ≡ true → number n < length segments

    own_part : (p : ℕ) → eqb p p ≡ true
    own_part p = grind (arith, nat_tests)

    below : (a b : ℕ) → ltb a b ≡ true → a < b
    below a b h = grind (arith, nat_tests)

    is_below : (a b : ℕ) → a < b → ltb a b ≡ true
    is_below a b h = grind (arith, nat_tests)

    distance_of : (kind : ℕ) (at : Option ℕ) (own : ℕ) → depends kind at own Fixed ≡ true → leb 2 kind ≡ true
    unfolding depends
    distance_of kind at own h = by (leb 2 kind) refl h
      where
        by : (d : Bool) → leb 2 kind ≡ d → (if d then leaves at own Fixed else false) ≡ true → leb 2 kind ≡ true
        by true e h = e
        by false e h = absurd (cc)

    distance_to : (kind : ℕ) (at : Option ℕ) (own : ℕ) → depends kind at own Absolute ≡ true → leb 2 kind ≡ true
    unfolding depends
    distance_to kind at own h = by (leb 2 kind) refl h
      where
        by : (d : Bool) → leb 2 kind ≡ d → (if d then leaves at own Absolute else false) ≡ true → leb 2 kind ≡ true
        by true e h = e
        by false e h = absurd (cc)

    target_sound : (kind : ℕ) (base : Base) → at_own kind base ≡ true → base_exists (length externals) base ≡ true → ((n : ℕ) → n < 3 → is_piece n base ≡ true → number n < length segments)
        → target_exists segments externals kind (target_of number base) ≡ true
    target_sound kind Fixed depends exists aims = distance_of kind t.at (kind_number t.kind) depends
    target_sound kind Absolute depends exists aims = distance_to kind t.at (kind_number t.kind) depends
    target_sound kind (Piece p) depends exists aims = is_below (number p) (length segments) (aims p (below p 3 exists) (own_part p))
    target_sound kind (External e) depends exists aims = exists

    first_sound : (o kind : ℕ) (v : Value) (d : Bool) → at_own kind v.base ≡ d → leb kind 4 ≡ true → base_exists (length externals) v.base ≡ true
        → ((n : ℕ) → n < 3 → aims_at n (if d then Some (kind, v) else None) ≡ true → number n < length segments)
        → list_all (fixup_is_sound segments externals) (listed (fixup_for number piece o (if d then Some (kind, v) else None))) ≡ true
    first_sound o kind v false e small exists aims = refl
    first_sound o kind v true e small exists aims = rw (there, small, target_sound kind v.base e exists aims) refl

    relocatable_sound : (o : ℕ) (relocatable_byte : RelocatableByte) → is_relocatable_byte (length externals) relocatable_byte ≡ true → Aims relocatable_byte → list_all (fixup_is_sound segments externals) (listed (fixup_for number piece o (relocation t relocatable_byte))) ≡ true
    unfolding relocated
    relocatable_sound o (Plain b) is aims = refl
    relocatable_sound o (First kind start v) is aims =
        let parts = and_parts (leb kind 4 && may_begin kind (Some start)) (base_exists (length externals) v.base) is in
        let begins = and_parts (leb kind 4) (may_begin kind (Some start)) parts.0 in
        first_sound o kind v (at_own kind v.base) refl begins.0 parts.1 aims
    relocatable_sound o (Second kind v) is aims = refl

    abbrev pub AllAim : List PlacedByte → Type 0
    AllAim [] = Unit {0}
    AllAim (c ∷ cs) = Aims c.relocatable_byte × AllAim cs

    abbrev pub sound_put : Put → Bool
    sound_put q = list_all (fixup_is_sound segments externals) (listed q.fixup)

    pub placed_bytes_sound : (placed_bytes : List PlacedByte) → AreRelocatableBytes (length externals) placed_bytes → AllAim placed_bytes → list_all sound_put (map (put_of number piece t) placed_bytes) ≡ true
    unfolding AreRelocatableBytes
    placed_bytes_sound [] are aim = refl
    placed_bytes_sound (c ∷ cs) are aim = both (sound_put (put_of number piece t c)) (list_all sound_put (map (put_of number piece t) cs)) (relocatable_sound c.offset c.relocatable_byte are.0 aim.0) (placed_bytes_sound cs are.2 aim.1)
