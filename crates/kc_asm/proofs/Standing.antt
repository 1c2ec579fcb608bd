-- What a statement says stands at its address.
use Rattle.std.proofs.Common.{◌≡◌, ℕ, zero, suc, ◌+◌, ◌%◌, ◌<◌, Bool, true, false, ◌||◌, List, [], ◌∷◌, length, refl, sym, ap, ◌∙◌, subst, inl, inr, ltb, arith}
use Rattle.std.specs.Prelude.{Option, Some, None, slice_get, if◌then◌else◌, ◌==◌}
use Rattle.std.specs.List.{list_any}
use Rattle.std.specs.Option.{option_map}
use Rattle.std.proofs.lemmas.Bool.{and_parts}
use Rattle.std.proofs.lemmas.Bool.Decides.{nat_tests}
use Rattle.std.proofs.lemmas.Option.{slice_get-map}
use Rattle.kc_expr.specs.declared.values.Base.{Base}
use Rattle.kc_expr.specs.declared.values.Base.TheVariants.{Fixed, Absolute, Piece, External}
use Rattle.kc_expr.specs.declared.values.Value.{Value}
use Rattle.kc_obj_module.specs.declared.parts.Segment.{Segment as ObjectSegment}
use Rattle.kc_obj_module.specs.Object.{Object}
use Rattle.kc_obj_module.specs.Numbers.{Bases}
use Rattle.kc_asm_encode.specs.declared.relocatable_byte.RelocatableByte.{RelocatableByte}
use Rattle.kc_asm_encode.specs.declared.relocatable_byte.RelocatableByte.TheVariants.{Plain, First, Second}
use Rattle.kc_asm_encode.specs.Relocating.{depends, relocated}
use Rattle.kc_asm_encode.specs.Suits.{FitsAt, AllFit}
use Rattle.kc_asm_section.specs.declared.part.PlacedByte.{PlacedByte}
use Rattle.kc_asm_section.specs.declared.unlinked.UnlinkedModule.{UnlinkedModule}
use Rattle.kc_asm_section.specs.Section.{Section, placed_byte_at, relocatable_byte_at}
use Rattle.kc_asm_section.specs.UnlinkedModules.{IsUnlinkedModule, AreRelocatableBytes, is_relocatable_byte, base_exists}
use Rattle.kc_asm_section.specs.Order.{relocation, aims_at, is_named, number_of, segment_of}
use Rattle.kc_asm_section.specs.ModuleOf.{IsModuleOf, kept_in, pieces_in}
use Rattle.kc_asm_section.specs.Numbers.{NumbersStand}
use Rattle.kc_link_place.specs.Placing.{Places, base_lists, bases_of, base_at}
use Rattle.kc_asm_unlinked_laws.specs.Parts.{StandsIn, start, part_bases}
use Rattle.kc_asm_unlinked_laws.specs.Linked.{FitsUnlinkedModule}
use Rattle.kc_asm_unlinked_laws.proofs.PlacedBytes.{three_parts, part_of, own_or_absolute}
use Rattle.kc_asm.proofs.Evens.{HasEvenBase, IsEvenAt, AllEven}

-- ---- which pieces numbers of one byte count from

-- a relocatable byte is one of the placed bytes
placed_byte_any : (p : RelocatableByte → Bool) (placed_bytes : List PlacedByte) (offset : ℕ) (o : RelocatableByte) → placed_byte_at placed_bytes offset ≡ Some o → p o ≡ true → list_any (λ (c : PlacedByte). p c.relocatable_byte) placed_bytes ≡ true
unfolding placed_byte_at
placed_byte_any p [] offset o e h = absurd (cc e)
placed_byte_any p (c ∷ placed_bytes) offset o e h = by (c.offset == offset) e (placed_byte_any p placed_bytes offset o)
  where
    or_true : (a b : Bool) → b ≡ true → (a || b) ≡ true
    or_true true b h = refl
    or_true false b h = h

    by : (t : Bool) → (if t then Some c.relocatable_byte else placed_byte_at placed_bytes offset) ≡ Some o → (placed_byte_at placed_bytes offset ≡ Some o → p o ≡ true → list_any (λ (c : PlacedByte). p c.relocatable_byte) placed_bytes ≡ true)
        → list_any (λ (c : PlacedByte). p c.relocatable_byte) (c ∷ placed_bytes) ≡ true
    by true f go = let s : c.relocatable_byte ≡ o = cc f in let g : p c.relocatable_byte ≡ true = ap p s ∙ h in (λ i. g i || list_any (λ (c : PlacedByte). p c.relocatable_byte) placed_bytes)
    by false f go = or_true (p c.relocatable_byte) (list_any (λ (c : PlacedByte). p c.relocatable_byte) placed_bytes) (go f h)

part_any : (p : Section → Bool) (ts : List Section) (n : ℕ) (t : Section) → slice_get ts n ≡ Some t → p t ≡ true → list_any p ts ≡ true
part_any p [] n t e h = absurd (cc e)
part_any p (u ∷ ts) zero t e h = let s : u ≡ t = cc e in let g : p u ≡ true = ap p s ∙ h in (λ i. g i || list_any p ts)
part_any p (u ∷ ts) (suc n) t e h = or_true (p u) (list_any p ts) (part_any p ts n t e h)
  where
    or_true : (a b : Bool) → b ≡ true → (a || b) ≡ true
    or_true true b h = refl
    or_true false b h = h

placed_byte_relocatable : (externals : ℕ) (placed_bytes : List PlacedByte) (offset : ℕ) (o : RelocatableByte) → AreRelocatableBytes externals placed_bytes → placed_byte_at placed_bytes offset ≡ Some o → is_relocatable_byte externals o ≡ true
unfolding AreRelocatableBytes placed_byte_at
placed_byte_relocatable externals [] offset o are e = absurd (cc e)
placed_byte_relocatable externals (c ∷ placed_bytes) offset o are e = by (c.offset == offset) e (placed_byte_relocatable externals placed_bytes offset o are.2)
  where
    by : (t : Bool) → (if t then Some c.relocatable_byte else placed_byte_at placed_bytes offset) ≡ Some o → (placed_byte_at placed_bytes offset ≡ Some o → is_relocatable_byte externals o ≡ true) → is_relocatable_byte externals o ≡ true
    by true f go = let s : c.relocatable_byte ≡ o = cc f in ap (is_relocatable_byte externals) (sym s) ∙ are.0
    by false f go = go f

get_some : {A : Type 0} (xs : List A) (i : ℕ) → i < length xs → (x : A) × (slice_get xs i ≡ Some x)
get_some [] i h = absurd (omega arith)
get_some (x ∷ xs) zero h = (x, refl)
get_some (x ∷ xs) (suc i) h = get_some xs i (omega (arith, h))

-- a byte that counts from a part is filled in by a relocation, which names the part
names_part : (d : UnlinkedModule) (part offset begin p : ℕ) (t : Section) (v : Value) → StandsIn d part t offset (First 1 begin v) → v.base ≡ Piece p → is_named d.parts.items d.publics.items p ≡ true
unfolding is_named relocated depends
names_part d part offset begin p t v s e = or_true _ _ (part_any (λ (u : Section). list_any (λ (c : PlacedByte). aims_at p (relocation u c.relocatable_byte)) u.placed_bytes) d.parts.items part t s.is_part
    (placed_byte_any (λ (o : RelocatableByte). aims_at p (relocation t o)) t.placed_bytes offset (First 1 begin v) s.is_relocatable_byte aims))
  where
    or_true : (a b : Bool) → b ≡ true → (a || b) ≡ true
    or_true true b h = refl
    or_true false b h = h

    aims : aims_at p (relocation t (First 1 begin v)) ≡ true
    aims = rw e (let r : (p == p) ≡ true = grind (arith, nat_tests) in r)

pub base_is : (ms : List Object) (places : Places) (i : ℕ) (m : Object) (piece : ℕ) → (bases_of ms places i m).piece piece ≡ base_at places.pieces i piece
unfolding base_lists base_at
base_is ms places i m piece = refl

-- the pieces of an unlinked module that stand at even addresses
abbrev pub RelocatableEven : Bases → Object → Type 0
RelocatableEven c m = (piece : ℕ) (s : ObjectSegment) → slice_get m.segments piece ≡ Some s → s.at ≡ None → c.piece piece % 2 ≡ 0

even_part : NumbersStand → (d : UnlinkedModule) (m : Object) (c : Bases) → IsUnlinkedModule d → IsModuleOf d m → RelocatableEven c m → (p : ℕ) → p < 3 → is_named d.parts.items d.publics.items p ≡ true → (part_bases c d).piece p % 2 ≡ 0
even_part law d m c unlinked of even p below named =
    let three = three_parts d.parts.items unlinked.places in
    let t = get_some d.parts.items p (omega (arith, below, three)) in
    let stands : slice_get (pieces_in d) (number_of (kept_in d) p) ≡ Some t.0 = law d three p below named ∙ t.1 in
    let segment : slice_get m.segments (number_of (kept_in d) p) ≡ Some (segment_of t.0) =
    ap (λ (l : List ObjectSegment). slice_get l (number_of (kept_in d) p)) of.segments ∙ (slice_get-map segment_of (pieces_in d) (number_of (kept_in d) p) ∙ ap (λ (o : Option Section). option_map segment_of o) stands) in
    elim (own_or_absolute d.parts.items p t.0 unlinked.places t.1) [
      | inl own ↦ even (number_of (kept_in d) p) (segment_of t.0) segment own.at
      | inr absolute ↦ (let a = absolute.above in absurd (omega (arith, a, below)))
    ]

exists_below : (kind begin externals p : ℕ) (v : Value) → v.base ≡ Piece p → is_relocatable_byte externals (First kind begin v) ≡ true → p < 3
exists_below kind begin externals p v e h =
    let exists : base_exists externals v.base ≡ true = (and_parts _ (base_exists externals v.base) h).1 in
    let below : ltb p 3 ≡ true = ap (base_exists externals) (sym e) ∙ exists in
    grind (arith, nat_tests, below)

even_relocatable : NumbersStand → (d : UnlinkedModule) (m : Object) (c : Bases) → IsUnlinkedModule d → IsModuleOf d m → RelocatableEven c m → (part offset : ℕ) (t : Section) (o : RelocatableByte) → StandsIn d part t offset o → IsEvenAt (part_bases c d) o
even_relocatable law d m c unlinked of even part offset t (Plain b) s = tt
even_relocatable law d m c unlinked of even part offset t (Second kind v) s = tt
even_relocatable law d m c unlinked of even part offset t (First kind begin v) s = λ one. by_base v.base refl (ap (λ (k : ℕ). First k begin v) one)
  where
    relocatable_byte : is_relocatable_byte (length d.externals.items) (First kind begin v) ≡ true
    relocatable_byte = placed_byte_relocatable (length d.externals.items) t.placed_bytes offset (First kind begin v) (part_of (length d.externals.items) d.parts.items part t unlinked.parts s.is_part).relocatable_bytes s.is_relocatable_byte

    by_base : (b : Base) → v.base ≡ b → First kind begin v ≡ First 1 begin v → HasEvenBase (part_bases c d) b
    by_base Fixed e f = tt
    by_base Absolute e f = tt
    by_base (External x) e f = tt
    by_base (Piece p) e f =
        even_part law d m c unlinked of even p (exists_below kind begin (length d.externals.items) p v e relocatable_byte)
        (names_part d part offset begin p t v (record { is_part = s.is_part; is_relocatable_byte = s.is_relocatable_byte ∙ ap (λ (x : RelocatableByte). Some x) f }) e)

-- ---- relocatable bytes in a row

pub all_even_from : NumbersStand → (d : UnlinkedModule) (m : Object) (c : Bases) → IsUnlinkedModule d → IsModuleOf d m → RelocatableEven c m → (part offset : ℕ) (t : Section) (os : List RelocatableByte) → slice_get d.parts.items part ≡ Some t
    → ((k : ℕ) (o : RelocatableByte) → slice_get os k ≡ Some o → relocatable_byte_at t (offset + k) ≡ Some o) → AllEven (part_bases c d) os
all_even_from law d m c unlinked of even part offset t [] is_part stand = tt
all_even_from law d m c unlinked of even part offset t (o ∷ os) is_part stand = (
  even_relocatable law d m c unlinked of even part (offset + 0) t o (record { is_part = is_part; is_relocatable_byte = stand 0 o refl }),
  all_even_from law d m c unlinked of even part (offset + 1) t os is_part (λ k x e. let q : (offset + 1) + k ≡ offset + suc k = omega arith in ap (relocatable_byte_at t) q ∙ stand (suc k) x e),
)

fits_relocatable : (d : UnlinkedModule) (c : Bases) → FitsUnlinkedModule c d → (part offset : ℕ) (t : Section) (o : RelocatableByte) → StandsIn d part t offset o → FitsAt (part_bases c d) (start c d part + offset) o
fits_relocatable d c fit part offset t (Plain b) s = tt
fits_relocatable d c fit part offset t (Second kind v) s = tt
fits_relocatable d c fit part offset t (First kind begin v) s = fit.numbers part offset kind begin t v s

pub all_fit_from : (d : UnlinkedModule) (c : Bases) → FitsUnlinkedModule c d → (part offset place : ℕ) (t : Section) (os : List RelocatableByte) → start c d part + offset ≡ place → slice_get d.parts.items part ≡ Some t
    → ((k : ℕ) (o : RelocatableByte) → slice_get os k ≡ Some o → relocatable_byte_at t (offset + k) ≡ Some o) → AllFit (part_bases c d) place os
all_fit_from d c fit part offset place t [] at is_part stand = tt
all_fit_from d c fit part offset place t (o ∷ os) at is_part stand =
    let z : start c d part + (offset + 0) ≡ place = omega (arith, at) in (
      subst (λ (n : ℕ). FitsAt (part_bases c d) n o) z (fits_relocatable d c fit part (offset + 0) t o (record { is_part = is_part; is_relocatable_byte = stand 0 o refl })),
      all_fit_from d c fit part (offset + 1) (place + 1) t os (omega (arith, at)) is_part (λ k x e. let q : (offset + 1) + k ≡ offset + suc k = omega arith in ap (relocatable_byte_at t) q ∙ stand (suc k) x e),
    )
