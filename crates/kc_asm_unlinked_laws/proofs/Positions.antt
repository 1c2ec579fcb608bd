-- Each part of an unlinked module that has bytes is a piece with its number, and each piece in which relocatable bytes stand is such a part.
use Rattle.std.proofs.Common.{◌≡◌, ℕ, zero, suc, ◌+◌, ◌-◌, ◌<◌, ◌≤◌, Bool, true, false, eqb, ltb, Some, List, [], ◌∷◌, ◌++◌, length, refl, sym, ap, ◌∙◌, subst, inl, inr, ◌⊎◌, arith}
use Rattle.std.specs.Prelude.{if◌then◌else◌, slice_get}
use Rattle.std.proofs.lemmas.Bool.Decides.{nat_tests}
use Rattle.kc_asm_encode.specs.declared.relocatable_byte.RelocatableByte.{RelocatableByte}
use Rattle.kc_asm_section.specs.declared.unlinked.UnlinkedModule.{UnlinkedModule}
use Rattle.kc_asm_section.specs.declared.unlinked.Public.{Public}
use Rattle.kc_asm_section.specs.Section.{Section, relocatable_byte_at, placed_byte_at}
use Rattle.kc_asm_section.specs.declared.kept.Kept.{Kept}
use Rattle.kc_asm_section.specs.Order.{stays, kept_of, count_of, number_of, kept_if, stack_section, stack_pieces, in_order, pieces_of}
use Rattle.kc_asm_section.specs.ModuleOf.{pieces_in}
use Rattle.kc_asm_unlinked_laws.specs.Parts.{piece_number}

-- ---- lists one behind the other

behind_by : (xs ys : List Section) (k n : ℕ) → length xs + k ≡ n → slice_get (xs ++ ys) n ≡ slice_get ys k
behind_by [] ys k n e = (let f : n ≡ k = omega (arith, e) in ap (slice_get ys) f)
behind_by (x ∷ xs) ys k zero e = absurd (omega (arith, e))
behind_by (x ∷ xs) ys k (suc n) e = behind_by xs ys k n (omega (arith, e))

behind : (xs ys : List Section) (k : ℕ) → slice_get (xs ++ ys) (length xs + k) ≡ slice_get ys k
behind xs ys k = behind_by xs ys k (length xs + k) refl

either_one : (xs ys : List Section) (n : ℕ) (t : Section) → slice_get (xs ++ ys) n ≡ Some t → (slice_get xs n ≡ Some t) ⊎ ((k : ℕ) × ((length xs + k ≡ n) × (slice_get ys k ≡ Some t)))
either_one [] ys n t e = inr (n, (omega arith, e))
either_one (x ∷ xs) ys zero t e = inl e
either_one (x ∷ xs) ys (suc n) t e = elim (either_one xs ys n t e) [ inl h ↦ inl h | inr h ↦ inr (h.0, (omega (arith, h.1.0), h.1.1)) ]

kept_count : (b : Bool) (t : Section) → length (kept_if b (Some t)) ≡ count_of b
kept_count true t = refl
kept_count false t = refl

behind_kept : (b : Bool) (s : Section) (rest : List Section) (k : ℕ) → slice_get (kept_if b (Some s) ++ rest) (count_of b + k) ≡ slice_get rest k
behind_kept b s rest k = behind_by (kept_if b (Some s)) rest k (count_of b + k) (let c = kept_count b s in omega (arith, c))

kept_first : (b : Bool) (t : Section) (rest : List Section) → b ≡ true → slice_get (kept_if b (Some t) ++ rest) 0 ≡ Some t
kept_first true t rest h = refl
kept_first false t rest h = absurd (cc h)

-- the one that is kept, or one behind it
kept_or : (b : Bool) (s : Section) (rest : List Section) (n : ℕ) (t : Section) → slice_get (kept_if b (Some s) ++ rest) n ≡ Some t
    → ((n ≡ 0) × (s ≡ t)) ⊎ ((k : ℕ) × ((count_of b + k ≡ n) × (slice_get rest k ≡ Some t)))
kept_or true s rest zero t e = let h : s ≡ t = cc e in inl (refl, h)
kept_or true s rest (suc n) t e = inr (n, (omega arith, e))
kept_or false s rest n t e = inr (n, (omega arith, e))

-- ---- by number

abbrev first_of : Kept → ℕ → ℕ
first_of k stack = count_of k.registers + (count_of k.code + (count_of k.ram + length (stack_pieces stack)))

abbrev number_in : Kept → ℕ → ℕ → ℕ
number_in k stack part = if ltb part 3 then number_of k part else first_of k stack + (part - 3)

number_absolute : (k : Kept) (stack i : ℕ) → number_in k stack (suc (suc (suc i))) ≡ first_of k stack + i
number_absolute k stack i =
    let b : ltb (suc (suc (suc i))) 3 ≡ false = grind (arith, nat_tests) in
    let s : suc (suc (suc i)) - 3 ≡ i = omega arith in
    rw (b, s) refl

module _ (k : Kept) (r c m : Section) (stack : ℕ) (absolute : List Section) where
  abbrev pieces : List Section
  pieces = in_order k (Some r) (Some c) (Some m) stack absolute

  registers_stand : k.registers ≡ true → slice_get pieces (number_in k stack 0) ≡ Some r
  registers_stand h = kept_first k.registers r _ h

  code_stands : k.code ≡ true → slice_get pieces (number_in k stack 1) ≡ Some c
  code_stands h =
      let n : count_of k.registers + 0 ≡ count_of k.registers = omega arith in
      subst (λ (i : ℕ). slice_get pieces i ≡ Some c) n
      (behind_kept k.registers r (kept_if k.code (Some c) ++ (kept_if k.ram (Some m) ++ (stack_pieces stack ++ absolute))) 0 ∙ kept_first k.code c (kept_if k.ram (Some m) ++ (stack_pieces stack ++ absolute)) h)

  ram_stands : k.ram ≡ true → slice_get pieces (number_in k stack 2) ≡ Some m
  ram_stands h =
      let n : count_of k.registers + (count_of k.code + 0) ≡ count_of k.registers + count_of k.code = omega arith in
      subst (λ (i : ℕ). slice_get pieces i ≡ Some m) n
      (behind_kept k.registers r (kept_if k.code (Some c) ++ (kept_if k.ram (Some m) ++ (stack_pieces stack ++ absolute))) (count_of k.code + 0)
      ∙ (behind_kept k.code c (kept_if k.ram (Some m) ++ (stack_pieces stack ++ absolute)) 0 ∙ kept_first k.ram m (stack_pieces stack ++ absolute) h))

  absolute_stands : (i : ℕ) → slice_get pieces (number_in k stack (suc (suc (suc i)))) ≡ slice_get absolute i
  absolute_stands i =
      let n : count_of k.registers + (count_of k.code + (count_of k.ram + (length (stack_pieces stack) + i))) ≡ number_in k stack (suc (suc (suc i))) = (let a = number_absolute k stack i in omega (arith, a)) in
      subst (λ (j : ℕ). slice_get pieces j ≡ slice_get absolute i) n
      (behind_kept k.registers r (kept_if k.code (Some c) ++ (kept_if k.ram (Some m) ++ (stack_pieces stack ++ absolute))) (count_of k.code + (count_of k.ram + (length (stack_pieces stack) + i)))
      ∙ (behind_kept k.code c (kept_if k.ram (Some m) ++ (stack_pieces stack ++ absolute)) (count_of k.ram + (length (stack_pieces stack) + i))
      ∙ (behind_kept k.ram m (stack_pieces stack ++ absolute) (length (stack_pieces stack) + i) ∙ behind (stack_pieces stack) absolute i)))

-- ---- a part that has bytes, or is absolute, is the piece with its number

nonempty_stays : (parts : List Section) (publics : List Public) (t : Section) (n : ℕ) → 0 < t.length → stays parts publics t n ≡ true
nonempty_stays parts publics t n h = let e : ltb 0 t.length ≡ true = grind (arith, nat_tests) in rw e refl

part_stands : (parts : List Section) (publics : List Public) (stack : ℕ) → 3 ≤ length parts → (part : ℕ) (t : Section) → slice_get parts part ≡ Some t → (0 < t.length) ⊎ (3 ≤ part)
    → slice_get (pieces_of (kept_of parts publics) parts stack) (number_in (kept_of parts publics) stack part) ≡ Some t
unfolding kept_of
part_stands [] publics stack three part t e h = absurd (omega arith)
part_stands (r ∷ []) publics stack three part t e h = absurd (omega arith)
part_stands (r ∷ c ∷ []) publics stack three part t e h = absurd (omega arith)
part_stands (r ∷ c ∷ m ∷ absolute) publics stack three zero t e (inr h) = absurd (omega arith)
part_stands (r ∷ c ∷ m ∷ absolute) publics stack three zero t e (inl h) =
    let q : r ≡ t = cc e in
    let s : stays (r ∷ c ∷ m ∷ absolute) publics r 0 ≡ true = nonempty_stays (r ∷ c ∷ m ∷ absolute) publics r 0 (subst (λ (u : Section). 0 < u.length) (sym q) h) in
    registers_stand (kept_of (r ∷ c ∷ m ∷ absolute) publics) r c m stack absolute s ∙ e
part_stands (r ∷ c ∷ m ∷ absolute) publics stack three (suc zero) t e (inr h) = absurd (omega arith)
part_stands (r ∷ c ∷ m ∷ absolute) publics stack three (suc zero) t e (inl h) =
    let q : c ≡ t = cc e in
    let s : stays (r ∷ c ∷ m ∷ absolute) publics c 1 ≡ true = nonempty_stays (r ∷ c ∷ m ∷ absolute) publics c 1 (subst (λ (u : Section). 0 < u.length) (sym q) h) in
    code_stands (kept_of (r ∷ c ∷ m ∷ absolute) publics) r c m stack absolute s ∙ e
part_stands (r ∷ c ∷ m ∷ absolute) publics stack three (suc (suc zero)) t e (inr h) = absurd (omega arith)
part_stands (r ∷ c ∷ m ∷ absolute) publics stack three (suc (suc zero)) t e (inl h) =
    let q : m ≡ t = cc e in
    let s : stays (r ∷ c ∷ m ∷ absolute) publics m 2 ≡ true = nonempty_stays (r ∷ c ∷ m ∷ absolute) publics m 2 (subst (λ (u : Section). 0 < u.length) (sym q) h) in
    ram_stands (kept_of (r ∷ c ∷ m ∷ absolute) publics) r c m stack absolute s ∙ e
part_stands (r ∷ c ∷ m ∷ absolute) publics stack three (suc (suc (suc i))) t e h =
    absolute_stands (kept_of (r ∷ c ∷ m ∷ absolute) publics) r c m stack absolute i ∙ e

pub piece_is : (d : UnlinkedModule) → 3 ≤ length d.parts.items → (part : ℕ) (t : Section) → slice_get d.parts.items part ≡ Some t → (0 < t.length) ⊎ (3 ≤ part)
    → slice_get (pieces_in d) (piece_number d part) ≡ Some t
piece_is d three part t e h = part_stands d.parts.items d.publics.items d.stack three part t e h

-- ---- a piece in which a relocatable byte stands is a part

pub record IsPart (parts : List Section) (k : Kept) (stack piece : ℕ) (t : Section) : Type 0 where
  pub part : ℕ
  pub number : number_in k stack part ≡ piece
  pub there : slice_get parts part ≡ Some t

nothing_in_stack : (stack n : ℕ) (t : Section) (offset : ℕ) (relocatable_byte : RelocatableByte) → slice_get (stack_pieces stack) n ≡ Some t → relocatable_byte_at t offset ≡ Some relocatable_byte → ⊥
unfolding placed_byte_at
nothing_in_stack stack n t offset relocatable_byte e h = by (eqb stack 0) n e
  where
    by : (b : Bool) (n : ℕ) → slice_get (if b then [] else stack_section stack ∷ []) n ≡ Some t → ⊥
    by true n q = cc q
    by false zero q = (let s : stack_section stack ≡ t = cc q in let f : relocatable_byte_at (stack_section stack) offset ≡ Some relocatable_byte = subst (λ (u : Section). relocatable_byte_at u offset ≡ Some relocatable_byte) (sym s) h in cc f)
    by false (suc n) q = cc q

part_of : (k : Kept) (r c m : Section) (stack : ℕ) (absolute : List Section) (piece : ℕ) (t : Section) (offset : ℕ) (relocatable_byte : RelocatableByte) → slice_get (in_order k (Some r) (Some c) (Some m) stack absolute) piece ≡ Some t → relocatable_byte_at t offset ≡ Some relocatable_byte
    → IsPart (r ∷ c ∷ m ∷ absolute) k stack piece t
part_of k r c m stack absolute piece t offset relocatable_byte e h = elim (kept_or k.registers r (kept_if k.code (Some c) ++ (kept_if k.ram (Some m) ++ (stack_pieces stack ++ absolute))) piece t e) [
  | inl f ↦ record { part = 0; number = sym f.0; there = ap (λ (u : Section). Some u) f.1 }
  | inr f ↦ elim (kept_or k.code c (kept_if k.ram (Some m) ++ (stack_pieces stack ++ absolute)) f.0 t f.1.1) [
    | inl g ↦ record { part = 1; number = omega (arith, f.1.0, g.0); there = ap (λ (u : Section). Some u) g.1 }
    | inr g ↦ elim (kept_or k.ram m (stack_pieces stack ++ absolute) g.0 t g.1.1) [
      | inl i ↦ record { part = 2; number = omega (arith, f.1.0, g.1.0, i.0); there = ap (λ (u : Section). Some u) i.1 }
      | inr i ↦ elim (either_one (stack_pieces stack) absolute i.0 t i.1.1) [
        | inl j ↦ absurd (nothing_in_stack stack i.0 t offset relocatable_byte j h)
        | inr j ↦ (let a = number_absolute k stack j.0 in record { part = suc (suc (suc j.0)); number = omega (arith, a, f.1.0, g.1.0, i.1.0, j.1.0); there = j.1.1 })
      ]
    ]
  ]
]

part_in : (parts : List Section) (publics : List Public) (stack : ℕ) → 3 ≤ length parts → (piece : ℕ) (t : Section) (offset : ℕ) (relocatable_byte : RelocatableByte)
    → slice_get (pieces_of (kept_of parts publics) parts stack) piece ≡ Some t → relocatable_byte_at t offset ≡ Some relocatable_byte → IsPart parts (kept_of parts publics) stack piece t
part_in [] publics stack three piece t offset relocatable_byte e h = absurd (omega arith)
part_in (r ∷ []) publics stack three piece t offset relocatable_byte e h = absurd (omega arith)
part_in (r ∷ c ∷ []) publics stack three piece t offset relocatable_byte e h = absurd (omega arith)
part_in (r ∷ c ∷ m ∷ absolute) publics stack three piece t offset relocatable_byte e h = part_of (kept_of (r ∷ c ∷ m ∷ absolute) publics) r c m stack absolute piece t offset relocatable_byte e h

pub part_is : (d : UnlinkedModule) → 3 ≤ length d.parts.items → (piece : ℕ) (t : Section) (offset : ℕ) (relocatable_byte : RelocatableByte) → slice_get (pieces_in d) piece ≡ Some t → relocatable_byte_at t offset ≡ Some relocatable_byte
    → (part : ℕ) × ((piece_number d part ≡ piece) × (slice_get d.parts.items part ≡ Some t))
part_is d three piece t offset relocatable_byte e h =
    let p = part_in d.parts.items d.publics.items d.stack three piece t offset relocatable_byte e h in
    (p.part, (p.number, p.there))
