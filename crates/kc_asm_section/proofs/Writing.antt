-- What stands in a piece after relocatable bytes were written at its end.
use Rattle.std.proofs.Common.{◌≡◌, ℕ, ◌+◌, ◌-◌, ◌<◌, ◌≤◌, Bool, true, false, ◌&&◌, eqb, ltb, leb, if◌then◌else◌, Option, Some, None, List, [], ◌∷◌, ◌++◌, length, suc, refl, sym, ap, ◌∙◌, append_assoc, arith}
use Rattle.std.specs.List.{slice_get, list_all}
use Rattle.std.proofs.lemmas.List.{append-nil}
use Rattle.std.proofs.lemmas.Bool.{and_parts}
use Rattle.std.proofs.lemmas.Bool.Decides.{nat_tests}
use Rattle.kc_asm_encode.specs.declared.relocatable_byte.RelocatableByte.{RelocatableByte}
use Rattle.kc_asm_section.specs.declared.part.PlacedByte.{PlacedByte}
use Rattle.kc_asm_section.specs.declared.part.Mark.{Mark}
use Rattle.kc_asm_section.specs.Section.{Section, section_of, rise, is_section, placed_byte_at, placed_byte, mark, put, laid, begun, placed_byte_offsets, mark_offsets}
use Rattle.kc_asm_section.specs.Writing.{IsLonger, WrittenStands, PutStands}

-- relocatable bytes one after the other from an offset on
abbrev numbered : ℕ → List RelocatableByte → List PlacedByte
numbered n [] = []
numbered n (o ∷ os) = placed_byte n o ∷ numbered (n + 1) os

one_by_one : (o : RelocatableByte) (os : List RelocatableByte) (t : Section) → section_of t.kind t.at (t.length + 1 + length os) ((t.placed_bytes ++ placed_byte t.length o ∷ []) ++ numbered (t.length + 1) os) t.marks ≡ section_of t.kind t.at (t.length + length (o ∷ os)) (t.placed_bytes ++ numbered t.length (o ∷ os)) t.marks
one_by_one o os t =
    let size : t.length + 1 + length os ≡ t.length + length (o ∷ os) = omega arith in
    let placed_bytes : (t.placed_bytes ++ placed_byte t.length o ∷ []) ++ numbered (t.length + 1) os ≡ t.placed_bytes ++ numbered t.length (o ∷ os) = append_assoc t.placed_bytes (placed_byte t.length o ∷ []) (numbered (t.length + 1) os) in
    (λ i. section_of t.kind t.at (size i) (placed_bytes i) t.marks)

laid_is : (os : List RelocatableByte) (t : Section) → laid os t ≡ section_of t.kind t.at (t.length + length os) (t.placed_bytes ++ numbered t.length os) t.marks
unfolding laid
laid_is [] t =
    let size : t.length ≡ t.length + length {A = RelocatableByte} [] = omega arith in
    (λ i. section_of t.kind t.at (size i) (sym (append-nil t.placed_bytes) i) t.marks)
laid_is (o ∷ os) t = laid_is os (put o t) ∙ one_by_one o os t

-- ---- reading

abbrev nothing : Option RelocatableByte
nothing = None

no_relocatable : (t : Bool) → nothing ≡ (if t then nothing else nothing)
no_relocatable true = refl
no_relocatable false = refl

numbered_at : (os : List RelocatableByte) (n i : ℕ) → placed_byte_at (numbered n os) i ≡ (if ltb i n then None else slice_get os (i - n))
unfolding placed_byte_at
numbered_at [] n i = no_relocatable (ltb i n)
numbered_at (o ∷ os) n i = ap (λ (x : Option RelocatableByte). if eqb n i then Some o else x) (numbered_at os (n + 1) i) ∙ by (eqb n i) refl (ltb i n) refl
  where
    at : (n i : ℕ) → eqb n i ≡ true → ltb i n ≡ false
    at n i h = grind (arith, nat_tests)

    start : (n i : ℕ) → eqb n i ≡ true → i - n ≡ 0
    start n i h = grind (arith, nat_tests)

    before : (n i : ℕ) → ltb i n ≡ true → ltb i (n + 1) ≡ true
    before n i h = grind (arith, nat_tests)

    behind : (n i : ℕ) → eqb n i ≡ false → ltb i n ≡ false → ltb i (n + 1) ≡ false
    behind n i h k = grind (arith, nat_tests)

    less : (n i : ℕ) → eqb n i ≡ false → ltb i n ≡ false → i - n ≡ suc (i - (n + 1))
    less n i h k =
        let lt : n < i = grind (arith, nat_tests) in
        omega arith

    by : (s : Bool) → eqb n i ≡ s → (t : Bool) → ltb i n ≡ t → (if s then Some o else (if ltb i (n + 1) then None else slice_get os (i - (n + 1)))) ≡ (if t then None else slice_get (o ∷ os) (i - n))
    by true h true k = absurd (cc (at n i h))
    by true h false k = rw (start n i h) refl
    by false h true k = rw (before n i k) refl
    by false h false k = rw (behind n i h k, less n i h k) refl

behind_placed_bytes : (placed_bytes : List PlacedByte) (os : List RelocatableByte) (n i : ℕ) → list_all (λ c. ltb c.offset n) placed_bytes ≡ true → placed_byte_at (placed_bytes ++ numbered n os) i ≡ (if ltb i n then placed_byte_at placed_bytes i else slice_get os (i - n))
unfolding placed_byte_at
behind_placed_bytes [] os n i h = numbered_at os n i
behind_placed_bytes (c ∷ cs) os n i h =
    let parts = and_parts (ltb c.offset n) (list_all (λ c. ltb c.offset n) cs) h in
    ap (λ (x : Option RelocatableByte). if eqb c.offset i then Some c.relocatable_byte else x) (behind_placed_bytes cs os n i parts.1) ∙ by (eqb c.offset i) refl (ltb i n) refl parts.0
  where
    within : (o n i : ℕ) → eqb o i ≡ true → ltb i n ≡ false → ltb o n ≡ true → ⊥
    within o n i h k l = grind (arith, nat_tests)

    by : (s : Bool) → eqb c.offset i ≡ s → (t : Bool) → ltb i n ≡ t → ltb c.offset n ≡ true
        → (if s then Some c.relocatable_byte else (if t then placed_byte_at cs i else slice_get os (i - n))) ≡ (if t then (if s then Some c.relocatable_byte else placed_byte_at cs i) else slice_get os (i - n))
    by true h true k l = refl
    by true h false k l = absurd (within c.offset n i h k l)
    by false h t k l = refl

-- ---- the placed bytes of a piece stand below its length

end_of : (from : ℕ) (os : List ℕ) (to : ℕ) → rise from os to ≡ true → from ≤ to
unfolding rise
end_of from [] to h = grind (arith, nat_tests)
end_of from (o ∷ os) to h =
    let parts : (leb from o ≡ true) × (rise (o + 1) os to ≡ true) = and_parts (leb from o) (rise (o + 1) os to) h in
    let rest : o + 1 ≤ to = end_of (o + 1) os to parts.1 in
    let first : leb from o ≡ true = parts.0 in
    grind (arith, nat_tests)

one_below : (o to : ℕ) (b : Bool) → o + 1 ≤ to → b ≡ true → (ltb o to && b) ≡ true
one_below o to true h k = grind (arith, nat_tests)
one_below o to false h k = absurd (cc)

all_below : (from : ℕ) (placed_bytes : List PlacedByte) (to : ℕ) → rise from (placed_byte_offsets placed_bytes) to ≡ true → list_all (λ c. ltb c.offset to) placed_bytes ≡ true
unfolding rise
all_below from [] to h = refl
all_below from (c ∷ cs) to h =
    let parts : (leb from c.offset ≡ true) × (rise (c.offset + 1) (placed_byte_offsets cs) to ≡ true) = and_parts (leb from c.offset) (rise (c.offset + 1) (placed_byte_offsets cs) to) h in
    one_below c.offset to (list_all (λ c. ltb c.offset to) cs) (end_of (c.offset + 1) (placed_byte_offsets cs) to parts.1) (all_below (c.offset + 1) cs to parts.1)

section_below : (t : Section) → is_section t ≡ true → list_all (λ c. ltb c.offset t.length) t.placed_bytes ≡ true
section_below t h =
    let prefix = and_parts (leb t.length 65536 && rise 0 (placed_byte_offsets t.placed_bytes) t.length) (rise 0 (mark_offsets t.marks) t.length) h in
    all_below 0 t.placed_bytes t.length (and_parts (leb t.length 65536) (rise 0 (placed_byte_offsets t.placed_bytes) t.length) prefix.0).1

longer : (t u : Section) (relocatable_bytes : List RelocatableByte) (marks : List Mark) → is_section t ≡ true → u ≡ section_of t.kind t.at (t.length + length relocatable_bytes) (t.placed_bytes ++ numbered t.length relocatable_bytes) marks → IsLonger t relocatable_bytes u
longer t u relocatable_bytes marks is e = record {
  kind = ap (λ (x : Section). x.kind) e;
  at = ap (λ (x : Section). x.at) e;
  size = ap (λ (x : Section). x.length) e;
  stand = λ i. ap (λ (x : Section). placed_byte_at x.placed_bytes i) e ∙ behind_placed_bytes t.placed_bytes relocatable_bytes t.length i (section_below t is);
}

begun_is : (line : ℕ) (o : RelocatableByte) (os : List RelocatableByte) (t : Section) → laid os (begun line o t) ≡ section_of t.kind t.at (t.length + length (o ∷ os)) (t.placed_bytes ++ numbered t.length (o ∷ os)) (t.marks ++ mark t.length line ∷ [])
begun_is line o os t =
    let size : t.length + 1 + length os ≡ t.length + length (o ∷ os) = omega arith in
    let placed_bytes : (t.placed_bytes ++ placed_byte t.length o ∷ []) ++ numbered (t.length + 1) os ≡ t.placed_bytes ++ numbered t.length (o ∷ os) = append_assoc t.placed_bytes (placed_byte t.length o ∷ []) (numbered (t.length + 1) os) in
    laid_is os (begun line o t) ∙ (λ i. section_of t.kind t.at (size i) (placed_bytes i) (t.marks ++ mark t.length line ∷ []))

pub written_there : WrittenStands
written_there t is line [] =
    let size : t.length ≡ t.length + length {A = RelocatableByte} [] = omega arith in
    (longer t t [] t.marks is (λ i. section_of t.kind t.at (size i) (sym (append-nil t.placed_bytes) i) t.marks), refl)
written_there t is line (o ∷ os) = (longer t (laid os (begun line o t)) (o ∷ os) (t.marks ++ mark t.length line ∷ []) is (begun_is line o os t), ap (λ (x : Section). x.marks) (begun_is line o os t))

pub put_there : PutStands
put_there t is relocatable_byte = longer t (put relocatable_byte t) (relocatable_byte ∷ []) t.marks is refl
