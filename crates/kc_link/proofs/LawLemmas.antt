-- Each relocation fits, absolute pieces stand at their addresses, and there is one image.
use Rattle.std.proofs.Common.{◌≡◌, ℕ, zero, suc, ◌+◌, ◌<◌, Bool, true, false, List, [], ◌∷◌, length, Some, None, refl, sym, ap, ◌∙◌, subst, inl, inr, zero-add, arith}
use Rattle.std.specs.Prelude.{slice_get, if◌then◌else◌, ◌==◌, ◌&&◌, ◌⊎◌}
use Rattle.std.proofs.lemmas.Bool.Decides.{nat_tests}
use Rattle.kc_obj_module.specs.declared.parts.Fixup.{Fixup}
use Rattle.kc_obj_module.specs.Numbers.{Bases, fits}
use Rattle.kc_obj_module.specs.Fixups.{fixup_at}
use Rattle.kc_link_place.specs.Filled.{fixup_number, is_fit, unfit_in}
use Rattle.kc_link_place.specs.Placing.{base_at, bases_of, place_of}
use Rattle.kc_link_place.proofs.ApartLemmas.{located-by, base-is}
use Rattle.kc_link.specs.Filled.{StandsAt}
use Rattle.kc_link.specs.Laws.{RelocationsFit, AbsolutePiecesStand, OneImage}
use Rattle.kc_link.proofs.PlacedLemmas.{was_located, module_fits}

record FixupFits (b : Bases) (f : Fixup) (piece offset : ℕ) : Type 0 where
  fit : is_fit b f ≡ true
  piece_is : f.piece ≡ piece
  offset_is : f.offset ≡ offset

both-same : (a b c d : ℕ) → ((a == b) && (c == d)) ≡ true → (a ≡ b) × (c ≡ d)
both-same a b c d e = (grind (arith, nat_tests, e), grind (arith, nat_tests, e))

fixup-fits : (b : Bases) (fs : List Fixup) (piece offset : ℕ) (f : Fixup) → unfit_in b fs ≡ None → fixup_at fs piece offset ≡ Some f → FixupFits b f piece offset
unfolding unfit_in fixup_at
fixup-fits b [] piece offset f h e = absurd (cc e)
fixup-fits b (x ∷ fs) piece offset f h e = by (is_fit b x) ((x.piece == piece) && (x.offset == offset)) refl refl h e (fixup-fits b fs piece offset f)
  where
    by : (t u : Bool) → is_fit b x ≡ t → ((x.piece == piece) && (x.offset == offset)) ≡ u → (if t then unfit_in b fs else Some x) ≡ None → (if u then Some x else fixup_at fs piece offset) ≡ Some f →
        (unfit_in b fs ≡ None → fixup_at fs piece offset ≡ Some f → FixupFits b f piece offset) → FixupFits b f piece offset
    by false u p q h e go = absurd (cc h)
    by true false p q h e go = go h e
    by true true p q h e go =
        let g : x ≡ f = cc e in
        let s = both-same x.piece piece x.offset offset q in
        subst (λ (y : Fixup). FixupFits b y piece offset) g (record { fit = p; piece_is = s.0; offset_is = s.1 })

pub relocations_fit : RelocationsFit
relocations_fit ms ranges places e = record {
  fit = λ i piece offset m f t k.
      let b : Bases = bases_of ms places i m in
      let u = module_fits ms places 0 ms (was_located ms ranges places e).fit i i m (zero-add i) t in
      let r : FixupFits (bases_of ms places i m) f piece offset = fixup-fits (bases_of ms places i m) m.fixups piece offset f u k in
      subst (λ (o : ℕ). fits f.kind (fixup_number (bases_of ms places i m) ((bases_of ms places i m).piece piece + o) f) ≡ true) r.offset_is
      (subst (λ (p : ℕ). fits f.kind (fixup_number (bases_of ms places i m) ((bases_of ms places i m).piece p + f.offset) f) ≡ true) r.piece_is r.fit);
}

pub absolute_pieces_stand : AbsolutePiecesStand
absolute_pieces_stand ms ranges places i piece address m s e t f a =
    let l = located-by ms ranges places (was_located ms ranges places e).located_ok in
    let at : place_of l.puts l.stack i piece s ≡ address = rw a refl in
    ap (λ (p : List (List ℕ)). base_at p i piece) l.is ∙ (base-is l.puts l.stack ms i piece m s t f ∙ at)

-- ---- one image

same-or : (m n : ℕ) → (m ≡ n) ⊎ (m ≡ n → ⊥)
same-or zero zero = inl refl
same-or zero (suc n) = inr (λ e. omega (arith, e))
same-or (suc m) zero = inr (λ e. omega (arith, e))
same-or (suc m) (suc n) = elim (same-or m n) [ inl e ↦ inl (ap (λ (k : ℕ). suc k) e) | inr f ↦ inr (λ e. f (omega (arith, e))) ]

get : (xs : List ℕ) (k : ℕ) → k < length xs → (v : ℕ) × (slice_get xs k ≡ Some v)
get [] k l = absurd (omega arith)
get (x ∷ xs) zero l = (x, refl)
get (x ∷ xs) (suc k) l = get xs k (omega arith)

equal_lists : (xs ys : List ℕ) → length xs ≡ length ys → ((k : ℕ) → k < length xs → slice_get xs k ≡ slice_get ys k) → xs ≡ ys
equal_lists [] [] l h = refl
equal_lists [] (y ∷ ys) l h = absurd (omega (arith, l))
equal_lists (x ∷ xs) [] l h = absurd (omega (arith, l))
equal_lists (x ∷ xs) (y ∷ ys) l h =
    let e : x ≡ y = (let f : Some x ≡ Some y = h 0 (omega arith) in cc f) in
    let r : xs ≡ ys = equal_lists xs ys (omega (arith, l)) (λ k m. h (suc k) (omega (arith, m))) in
    λ i. e i ∷ r i

pub one_image : OneImage
one_image ms places image other f g = equal_lists image other (f.long ∙ sym g.long) (λ k l. same k l (get image k l) (get other k (omega (arith, l, f.long, g.long))))
  where
    same : (k : ℕ) → k < length image → (v : ℕ) × (slice_get image k ≡ Some v) → (w : ℕ) × (slice_get other k ≡ Some w) → slice_get image k ≡ slice_get other k
    same k l v w = elim (same-or v.0 w.0) [
      | inl e ↦ v.1 ∙ (ap (λ (n : ℕ). Some n) e ∙ sym w.1)
      | inr d ↦
          let none : StandsAt ms places k → ⊥ = λ s. (let a : Some v.0 ≡ Some w.0 = sym v.1 ∙ (f.stands k s ∙ (sym (g.stands k s) ∙ w.1)) in let b : v.0 ≡ w.0 = cc a in d b) in
          f.blank k (omega (arith, l, f.long)) none ∙ sym (g.blank k (omega (arith, l, f.long)) none)
    ]
