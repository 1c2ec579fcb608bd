-- In a part whose relocatable bytes rise, a second byte follows its first one, and each relocatable byte stands within the length.
use Rattle.std.proofs.Common.{◌≡◌, ℕ, zero, suc, ◌+◌, ◌<◌, ◌≤◌, Bool, true, false, ◌&&◌, eqb, ltb, leb, Option, Some, None, List, [], ◌∷◌, length, refl, ap, ◌∙◌, subst, inl, inr, ◌⊎◌, arith}
use Rattle.std.specs.Prelude.{if◌then◌else◌, slice_get}
use Rattle.std.specs.List.{list_all, AllByRecursion}
use Rattle.std.proofs.lemmas.Bool.{and_parts}
use Rattle.std.proofs.lemmas.Bool.Decides.{nat_tests}
use Rattle.kc_expr.specs.declared.values.Value.{Value}
use Rattle.kc_obj_module.specs.declared.parts.SegKind.{SegKind}
use Rattle.kc_obj_module.specs.declared.parts.SegKind.TheVariants.{Reg, Code, Ram}
use Rattle.kc_obj_module.specs.Pieces.{kind_number, is_relocatable}
use Rattle.kc_obj_module.specs.Numbers.{width}
use Rattle.kc_asm_encode.specs.declared.relocatable_byte.RelocatableByte.{RelocatableByte}
use Rattle.kc_asm_encode.specs.declared.relocatable_byte.RelocatableByte.TheVariants.{First, Second}
use Rattle.kc_asm_section.specs.declared.part.PlacedByte.{PlacedByte}
use Rattle.kc_asm_section.specs.Section.{Section, rise, placed_byte_offsets, is_section, placed_byte_at, relocatable_byte_at, placed_byte}
use Rattle.kc_asm_section.specs.UnlinkedModules.{BeginsWithSecond, IsComplete, AreRelocatableBytes, IsPart, stands_at, is_relocatable_part, is_absolute_part, stand_well}

same_number : (a b : ℕ) → eqb a b ≡ true → a ≡ b
same_number a b h = grind (arith, nat_tests)

-- ---- offsets rise

from_on : (a b : ℕ) → leb a b ≡ true → a ≤ b
from_on a b h = grind (arith, nat_tests)

rise_end : (from : ℕ) (placed_bytes : List PlacedByte) (to : ℕ) → rise from (placed_byte_offsets placed_bytes) to ≡ true → from ≤ to
unfolding rise
rise_end from [] to h = from_on from to h
rise_end from (c ∷ cs) to h =
    let parts = and_parts (leb from c.offset) (rise (c.offset + 1) (placed_byte_offsets cs) to) h in
    let first : from ≤ c.offset = from_on from c.offset parts.0 in
    let rest : c.offset + 1 ≤ to = rise_end (c.offset + 1) cs to parts.1 in
    omega (arith, first, rest)

-- a relocatable byte stands from where the offsets rise, and below where they end
between : (from : ℕ) (placed_bytes : List PlacedByte) (to offset : ℕ) (relocatable_byte : RelocatableByte) → rise from (placed_byte_offsets placed_bytes) to ≡ true → placed_byte_at placed_bytes offset ≡ Some relocatable_byte → (from ≤ offset) × (offset < to)
unfolding rise placed_byte_at
between from [] to offset relocatable_byte h e = absurd (cc e)
between from (c ∷ cs) to offset relocatable_byte h e =
    let parts = and_parts (leb from c.offset) (rise (c.offset + 1) (placed_byte_offsets cs) to) h in
    by (eqb c.offset offset) refl e (from_on from c.offset parts.0) (rise_end (c.offset + 1) cs to parts.1) (between (c.offset + 1) cs to offset relocatable_byte parts.1)
  where
    by : (t : Bool) → eqb c.offset offset ≡ t → (if t then Some c.relocatable_byte else placed_byte_at cs offset) ≡ Some relocatable_byte → from ≤ c.offset → c.offset + 1 ≤ to
        → (placed_byte_at cs offset ≡ Some relocatable_byte → (c.offset + 1 ≤ offset) × (offset < to)) → (from ≤ offset) × (offset < to)
    by true q f a b go = let s : c.offset ≡ offset = same_number c.offset offset q in (omega (arith, s, a), omega (arith, s, b))
    by false q f a b go = let r = go f in (omega (arith, a, r.0), r.1)

-- ---- a second byte follows its first one

begins : (kind offset : ℕ) (v : Value) (o : ℕ) (cs : List PlacedByte) → o + 1 ≡ offset → BeginsWithSecond kind (o + 1) v cs → placed_byte_at cs offset ≡ Some (Second kind v)
unfolding placed_byte_at
begins kind offset v o [] e h = absurd h
begins kind offset v o (c ∷ cs) e h =
    let s : c.offset ≡ o + 1 = ap (λ (x : PlacedByte). x.offset) h in
    let t : eqb c.offset offset ≡ true = grind (arith, nat_tests, s, e) in
    let f : c.relocatable_byte ≡ Second kind v = ap (λ (x : PlacedByte). x.relocatable_byte) h in
    rw (t, f) refl

second_follows : (externals from to : ℕ) (placed_bytes : List PlacedByte) (offset kind begin : ℕ) (v : Value) → rise from (placed_byte_offsets placed_bytes) to ≡ true → AreRelocatableBytes externals placed_bytes
    → placed_byte_at placed_bytes offset ≡ Some (First kind begin v) → width kind ≡ 2 → placed_byte_at placed_bytes (offset + 1) ≡ Some (Second kind v)
unfolding rise AreRelocatableBytes placed_byte_at
second_follows externals from to [] offset kind begin v h are e w = absurd (cc e)
second_follows externals from to (c ∷ cs) offset kind begin v h are e w =
    let parts = and_parts (leb from c.offset) (rise (c.offset + 1) (placed_byte_offsets cs) to) h in
    by (eqb c.offset offset) refl e (between (c.offset + 1) cs to offset (First kind begin v) parts.1) (second_follows externals (c.offset + 1) to cs offset kind begin v parts.1 are.2)
  where
    by : (t : Bool) → eqb c.offset offset ≡ t → (if t then Some c.relocatable_byte else placed_byte_at cs offset) ≡ Some (First kind begin v)
        → (placed_byte_at cs offset ≡ Some (First kind begin v) → (c.offset + 1 ≤ offset) × (offset < to))
        → (placed_byte_at cs offset ≡ Some (First kind begin v) → width kind ≡ 2 → placed_byte_at cs (offset + 1) ≡ Some (Second kind v))
        → (if eqb c.offset (offset + 1) then Some c.relocatable_byte else placed_byte_at cs (offset + 1)) ≡ Some (Second kind v)
    by true q f low go =
        let s : c.offset ≡ offset = same_number c.offset offset q in
        let n : eqb c.offset (offset + 1) ≡ false = grind (arith, nat_tests, s) in
        let o : c.relocatable_byte ≡ First kind begin v = cc f in
        let complete : IsComplete (placed_byte c.offset (First kind begin v)) cs = subst (λ (x : RelocatableByte). IsComplete (placed_byte c.offset x) cs) o are.1 in
        rw n (begins kind (offset + 1) v c.offset cs (omega (arith, s)) (complete w))
    by false q f low go =
        let b = low f in
        let n : eqb c.offset (offset + 1) ≡ false = grind (arith, nat_tests, b.0) in
        rw n (go f w)

-- ---- of a part

placed_bytes_rise : (t : Section) → is_section t ≡ true → rise 0 (placed_byte_offsets t.placed_bytes) t.length ≡ true
placed_bytes_rise t h = (and_parts (leb t.length 65536) (rise 0 (placed_byte_offsets t.placed_bytes) t.length) (and_parts (leb t.length 65536 && rise 0 (placed_byte_offsets t.placed_bytes) t.length) _ h).0).1

pub is_within : (t : Section) (offset : ℕ) (relocatable_byte : RelocatableByte) → is_section t ≡ true → relocatable_byte_at t offset ≡ Some relocatable_byte → offset < t.length
is_within t offset relocatable_byte h e = (between 0 t.placed_bytes t.length offset relocatable_byte (placed_bytes_rise t h) e).1

pub follows : (externals : ℕ) (t : Section) → is_section t ≡ true → IsPart externals t → (offset kind begin : ℕ) (v : Value) → relocatable_byte_at t offset ≡ Some (First kind begin v) → width kind ≡ 2
    → relocatable_byte_at t (offset + 1) ≡ Some (Second kind v)
follows externals t h part offset kind begin v e w = second_follows externals 0 t.length t.placed_bytes offset kind begin v (placed_bytes_rise t h) part.relocatable_bytes e w

-- ---- of all parts

pub section_of : (ts : List Section) (n : ℕ) (t : Section) → list_all is_section ts ≡ true → slice_get ts n ≡ Some t → is_section t ≡ true
section_of [] n t h e = absurd (cc e)
section_of (u ∷ ts) zero t h e = let q : u ≡ t = cc e in subst (λ (x : Section). is_section x ≡ true) q (and_parts (is_section u) (list_all is_section ts) h).0
section_of (u ∷ ts) (suc n) t h e = section_of ts n t (and_parts (is_section u) (list_all is_section ts) h).1 e

pub part_of : (externals : ℕ) (ts : List Section) (n : ℕ) (t : Section) → AllByRecursion (IsPart externals) ts → slice_get ts n ≡ Some t → IsPart externals t
part_of externals [] n t h e = absurd (cc e)
part_of externals (u ∷ ts) zero t h e = let q : u ≡ t = cc e in subst (λ (x : Section). IsPart externals x) q h.0
part_of externals (u ∷ ts) (suc n) t h e = part_of externals ts n t h.1 e

-- a part is relocatable and has the number of its kind, or is absolute
pub record IsOwn (part : ℕ) (t : Section) : Type 0 where
  pub below : part < 3
  pub own : kind_number t.kind ≡ part
  pub at : t.at ≡ None

pub record IsAbsolute (part : ℕ) (t : Section) : Type 0 where
  pub above : 3 ≤ part
  pub address : ℕ
  pub at : t.at ≡ Some address

relocatable_none : (at : Option ℕ) → is_relocatable at ≡ true → at ≡ None
relocatable_none None h = refl
relocatable_none (Some x) h = absurd (cc h)

own_part : (kind : SegKind) (t : Section) (part : ℕ) → is_relocatable_part kind t ≡ true → kind_number kind ≡ part → part < 3 → IsOwn part t
own_part kind t part h e b =
    let parts = and_parts (eqb (kind_number t.kind) (kind_number kind) && is_relocatable t.at) (ltb t.length 65536) h in
    let two = and_parts (eqb (kind_number t.kind) (kind_number kind)) (is_relocatable t.at) parts.0 in
    record { below = b; own = same_number (kind_number t.kind) (kind_number kind) two.0 ∙ e; at = relocatable_none t.at two.1 }

absolute_at : (kind : SegKind) (size : ℕ) (at : Option ℕ) → stands_at kind size at ≡ true → (address : ℕ) × (at ≡ Some address)
absolute_at kind size None h = absurd (cc h)
absolute_at kind size (Some x) h = (x, refl)

absolute_part : (ts : List Section) (n : ℕ) (t : Section) → list_all is_absolute_part ts ≡ true → slice_get ts n ≡ Some t → IsAbsolute (suc (suc (suc n))) t
absolute_part [] n t h e = absurd (cc e)
absolute_part (u ∷ ts) zero t h e =
    let q : u ≡ t = cc e in
    let own : stands_at t.kind t.length t.at ≡ true = subst (λ (x : Section). is_absolute_part x ≡ true) q (and_parts (is_absolute_part u) (list_all is_absolute_part ts) h).0 in
    let a = absolute_at t.kind t.length t.at own in
    record { above = omega arith; address = a.0; at = a.1 }
absolute_part (u ∷ ts) (suc n) t h e =
    let r = absolute_part ts n t (and_parts (is_absolute_part u) (list_all is_absolute_part ts) h).1 e in
    record { above = omega arith; address = r.address; at = r.at }

pub three_parts : (ts : List Section) → stand_well ts ≡ true → 3 ≤ length ts
three_parts [] h = absurd (cc h)
three_parts (r ∷ []) h = absurd (cc h)
three_parts (r ∷ c ∷ []) h = absurd (cc h)
three_parts (r ∷ c ∷ m ∷ absolute) h = omega arith

pub own_or_absolute : (ts : List Section) (part : ℕ) (t : Section) → stand_well ts ≡ true → slice_get ts part ≡ Some t → IsOwn part t ⊎ IsAbsolute part t
own_or_absolute [] part t h e = absurd (cc h)
own_or_absolute (r ∷ []) part t h e = absurd (cc h)
own_or_absolute (r ∷ c ∷ []) part t h e = absurd (cc h)
own_or_absolute (r ∷ c ∷ m ∷ absolute) part t h e =
    let last = and_parts (is_relocatable_part Reg r && is_relocatable_part Code c && is_relocatable_part Ram m) (list_all is_absolute_part absolute) h in
    let three = and_parts (is_relocatable_part Reg r && is_relocatable_part Code c) (is_relocatable_part Ram m) last.0 in
    let two = and_parts (is_relocatable_part Reg r) (is_relocatable_part Code c) three.0 in
    by part e two.0 two.1 three.1 last.1
  where
    by : (part : ℕ) → slice_get (r ∷ c ∷ m ∷ absolute) part ≡ Some t → is_relocatable_part Reg r ≡ true → is_relocatable_part Code c ≡ true → is_relocatable_part Ram m ≡ true
        → list_all is_absolute_part absolute ≡ true → IsOwn part t ⊎ IsAbsolute part t
    by zero f a b d rest = let q : r ≡ t = cc f in inl (own_part Reg t 0 (subst (λ (x : Section). is_relocatable_part Reg x ≡ true) q a) refl (omega arith))
    by (suc zero) f a b d rest = let q : c ≡ t = cc f in inl (own_part Code t 1 (subst (λ (x : Section). is_relocatable_part Code x ≡ true) q b) refl (omega arith))
    by (suc (suc zero)) f a b d rest = let q : m ≡ t = cc f in inl (own_part Ram t 2 (subst (λ (x : Section). is_relocatable_part Ram x ≡ true) q d) refl (omega arith))
    by (suc (suc (suc n))) f a b d rest = inr (absolute_part absolute n t rest f)
