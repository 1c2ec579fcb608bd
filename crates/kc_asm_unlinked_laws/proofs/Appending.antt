-- What stands in a part stays while relocatable bytes are written behind it.
use Rattle.std.proofs.Common.{◌≡◌, ℕ, zero, suc, ◌+◌, ◌-◌, ◌<◌, Bool, true, false, ltb, eqb, Option, Some, None, List, [], ◌∷◌, refl, sym, ap, ◌∙◌, subst, inl, inr, ◌⊎◌, arith}
use Rattle.std.specs.Prelude.{if◌then◌else◌, slice_get}
use Rattle.std.proofs.lemmas.Bool.Decides.{nat_tests}
use Rattle.kc_expr.specs.declared.values.Value.{Value}
use Rattle.kc_obj_module.specs.declared.parts.SegKind.{SegKind}
use Rattle.kc_obj_module.specs.Pieces.{kind_number}
use Rattle.kc_obj_module.specs.Numbers.{width}
use Rattle.kc_asm_encode.specs.declared.relocatable_byte.RelocatableByte.{RelocatableByte}
use Rattle.kc_asm_encode.specs.declared.relocatable_byte.RelocatableByte.TheVariants.{Plain, First, Second}
use Rattle.kc_asm_encode.specs.Relocating.{misfit}
use Rattle.kc_asm_encode.specs.Pairs.{Pending, opens, Follows, IsPairedFrom, IsPaired}
use Rattle.kc_asm_section.specs.Section.{Section, relocatable_byte_at}
use Rattle.kc_asm_section.specs.Writing.{IsLonger}
use Rattle.kc_asm_section.specs.Order.{start_of}
use Rattle.kc_asm_unlinked_laws.specs.Growing.{FirstsStay, NoMisfitStays}

-- ---- of lists

-- the first byte of a number of two bytes stands before a place of a list
record IsFirst (relocatable_bytes : List RelocatableByte) (place kind : ℕ) (v : Value) : Type 0 where
  before : ℕ
  next : suc before ≡ place
  wide : width kind ≡ 2
  begin : ℕ
  first : slice_get relocatable_bytes before ≡ Some (First kind begin v)

opened : (o : RelocatableByte) (kind : ℕ) (v : Value) → opens o ≡ Some (kind, v) → (begin : ℕ) × ((o ≡ First kind begin v) × (width kind ≡ 2))
opened (Plain b) kind v e = absurd (cc e)
opened (Second k w) kind v e = absurd (cc e)
opened (First k begin w) kind v e = by (eqb (width k) 2) refl e
  where
    by : (t : Bool) → eqb (width k) 2 ≡ t → if◌then◌else◌ {A = Pending} t (Some (k, w)) None ≡ Some (kind, v) → (m : ℕ) × ((First k begin w ≡ First kind m v) × (width kind ≡ 2))
    by true t f =
        let q : ◌≡◌ {A = ℕ × Value} (k, w) (kind, v) = cc f in
        let a : k ≡ kind = ap (λ (x : ℕ × Value). x.0) q in
        let b : w ≡ v = ap (λ (x : ℕ × Value). x.1) q in
        let c : width k ≡ 2 = grind (arith, nat_tests, t) in
        (begin, ((λ i. First (a i) begin (b i)), subst (λ (x : ℕ). width x ≡ 2) a c))
    by false t f = absurd (cc f)

pending : (p : Pending) (o : RelocatableByte) (kind : ℕ) (v : Value) → Follows p o → o ≡ Second kind v → p ≡ Some (kind, v)
pending p (Plain b) kind v f e = absurd (cc e)
pending p (First k begin w) kind v f e = absurd (cc e)
pending None (Second k w) kind v f e = absurd f
pending (Some q) (Second k w) kind v f e =
    let a : k ≡ kind = cc e in
    let b : w ≡ v = cc e in
    λ i. Some ((f.0 ∙ a) i, (f.1 ∙ b) i)

firsts : (p : Pending) (relocatable_bytes : List RelocatableByte) (k kind : ℕ) (v : Value) → IsPairedFrom p relocatable_bytes → slice_get relocatable_bytes k ≡ Some (Second kind v)
    → ((k ≡ 0) × (p ≡ Some (kind, v))) ⊎ IsFirst relocatable_bytes k kind v
firsts p [] k kind v h e = absurd (cc e)
firsts p (o ∷ os) zero kind v h e = inl (refl, pending p o kind v h.0 (cc e))
firsts p (o ∷ os) (suc k) kind v h e = elim (firsts (opens o) os k kind v h.1 e) [
  | inl f ↦
      let q = opened o kind v f.1 in
      inr (record { before = 0; next = ap (λ (i : ℕ). suc i) (sym f.0); wide = q.1.1; begin = q.0; first = ap (λ (x : RelocatableByte). Some x) q.1.0 })
  | inr f ↦ inr (record { before = suc f.before; next = ap (λ (i : ℕ). suc i) f.next; wide = f.wide; begin = f.begin; first = f.first })
]

paired_first : (relocatable_bytes : List RelocatableByte) (k kind : ℕ) (v : Value) → IsPaired relocatable_bytes → slice_get relocatable_bytes k ≡ Some (Second kind v) → IsFirst relocatable_bytes k kind v
paired_first relocatable_bytes k kind v h e = elim (firsts None relocatable_bytes k kind v h e) [
  | inl f ↦ (let q : None ≡ Some (kind, v) = f.1 in absurd (cc q))
  | inr f ↦ f
]

-- ---- of parts

module _ (t u : Section) (relocatable_bytes : List RelocatableByte) (h : IsLonger t relocatable_bytes u) where
  in_front : (i : ℕ) → i < t.length → relocatable_byte_at u i ≡ relocatable_byte_at t i
  in_front i l = let b : ltb i t.length ≡ true = grind (arith, nat_tests, l) in h.stand i ∙ (rw b refl)

  behind : (k : ℕ) → relocatable_byte_at u (t.length + k) ≡ slice_get relocatable_bytes k
  behind k =
      let b : ltb (t.length + k) t.length ≡ false = grind (arith, nat_tests) in
      let s : (t.length + k) - t.length ≡ k = omega arith in
      h.stand (t.length + k) ∙ (rw (b, s) refl)

  -- a relocatable byte stood before, or is one of those that are written
  either_of : (i : ℕ) (o : RelocatableByte) → relocatable_byte_at u i ≡ Some o → ((i < t.length) × (relocatable_byte_at t i ≡ Some o)) ⊎ ((k : ℕ) × ((t.length + k ≡ i) × (slice_get relocatable_bytes k ≡ Some o)))
  either_of i o e = by (ltb i t.length) refl (sym (h.stand i) ∙ e)
    where
      by : (b : Bool) → ltb i t.length ≡ b → (if b then relocatable_byte_at t i else slice_get relocatable_bytes (i - t.length)) ≡ Some o → ((i < t.length) × (relocatable_byte_at t i ≡ Some o)) ⊎ ((k : ℕ) × ((t.length + k ≡ i) × (slice_get relocatable_bytes k ≡ Some o)))
      by true b f = inl (grind (arith, nat_tests, b), f)
      by false b f = inr (i - t.length, (grind (arith, nat_tests, b), f))

pub firsts_stay : FirstsStay
firsts_stay t u relocatable_bytes h whole paired offset kind v e = elim (either_of t u relocatable_bytes h offset (Second kind v) e) [
  | inl f ↦
      let g = whole offset kind v f.1 in
      record { before = g.before; next = g.next; wide = g.wide; begin = g.begin; first = in_front t u relocatable_bytes h g.before (omega (arith, g.next, f.0)) ∙ g.first }
  | inr f ↦
      let g = paired_first relocatable_bytes f.0 kind v paired f.1.1 in
      record { before = t.length + g.before; next = omega (arith, g.next, f.1.0); wide = g.wide; begin = g.begin; first = behind t u relocatable_bytes h g.before ∙ g.first }
]

pub no_misfit_stays : NoMisfitStays
no_misfit_stays t u relocatable_bytes h settled fit offset o e =
    ap (λ (at : Option ℕ). misfit at (kind_number u.kind) (start_of at + offset) o) h.at
    ∙ (ap (λ (kind : SegKind). misfit t.at (kind_number kind) (start_of t.at + offset) o) h.kind ∙ by (either_of t u relocatable_bytes h offset o e))
  where
    by : ((offset < t.length) × (relocatable_byte_at t offset ≡ Some o)) ⊎ ((k : ℕ) × ((t.length + k ≡ offset) × (slice_get relocatable_bytes k ≡ Some o))) → misfit t.at (kind_number t.kind) (start_of t.at + offset) o ≡ None
    by (inl f) = settled offset o f.1
    by (inr f) = subst (λ (i : ℕ). misfit t.at (kind_number t.kind) (start_of t.at + i) o ≡ None) f.1.0 (fit f.0 o f.1.1)
