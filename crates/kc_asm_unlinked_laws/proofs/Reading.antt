-- What is held in an image byte by byte is read from it in a row.
use Rattle.std.proofs.Common.{◌≡◌, ℕ, zero, suc, ◌+◌, ◌-◌, ◌≤◌, Some, List, [], ◌∷◌, ◌++◌, refl, sym, ap, ◌∙◌, arith}
use Rattle.std.specs.Prelude.{slice_get, drop}
use Rattle.kc_obj_module.specs.Numbers.{Bases}
use Rattle.kc_asm_encode.specs.declared.relocatable_byte.RelocatableByte.{RelocatableByte}
use Rattle.kc_asm_encode.specs.Filling.{fill, filled}
use Rattle.kc_asm_unlinked_laws.specs.Parts.{start, part_bases}
use Rattle.kc_asm_unlinked_laws.specs.Linked.{IsHeld, HeldIsRead}

drop_get : (xs : List ℕ) (n x : ℕ) → slice_get xs n ≡ Some x → drop n xs ≡ x ∷ drop (suc n) xs
drop_get [] n x e = absurd (cc e)
drop_get (y ∷ xs) zero x e = let h : y ≡ x = cc e in ap (λ (z : ℕ). z ∷ xs) h
drop_get (y ∷ xs) (suc n) x e = drop_get xs n x e

-- bytes at consecutive places from one on
read : (image : List ℕ) (bases : Bases) (at place : ℕ) (relocatable_bytes : List RelocatableByte)
    → ((k : ℕ) (o : RelocatableByte) → slice_get relocatable_bytes k ≡ Some o → slice_get image (place + k) ≡ Some (fill bases (at + k) o))
    → (rest : List ℕ) × (drop place image ≡ filled bases at relocatable_bytes ++ rest)
unfolding filled
read image bases at place [] h = (drop place image, refl)
read image bases at place (o ∷ os) h =
    let z : place + 0 ≡ place = omega arith in
    let y : at + 0 ≡ at = omega arith in
    let first : slice_get image place ≡ Some (fill bases at o) = ap (slice_get image) (sym z) ∙ (h 0 o refl ∙ ap (λ (x : ℕ). Some (fill bases x o)) y) in
    let next = read image bases (at + 1) (place + 1) os (λ k x e. step k x e) in
    let s : suc place ≡ place + 1 = omega arith in
    (next.0, drop_get image place (fill bases at o) first ∙ ap (λ (l : List ℕ). fill bases at o ∷ l) (ap (λ (i : ℕ). drop i image) s ∙ next.1))
  where
    step : (k : ℕ) (x : RelocatableByte) → slice_get os k ≡ Some x → slice_get image ((place + 1) + k) ≡ Some (fill bases ((at + 1) + k) x)
    step k x e =
        let p : (place + 1) + k ≡ place + suc k = omega arith in
        let q : at + suc k ≡ (at + 1) + k = omega arith in
        ap (slice_get image) p ∙ (h (suc k) x e ∙ ap (λ (i : ℕ). Some (fill bases i x)) q)

pub held_is_read : HeldIsRead
unfolding filled
held_is_read image bases d part offset [] held stand = (drop ((start bases d part + offset) - 0x2000) image, refl)
held_is_read image bases d part offset (o ∷ os) held stand = read image (part_bases bases d) (start bases d part + offset) ((start bases d part + offset) - 0x2000) (o ∷ os) byte
  where
    is_held : (k : ℕ) (x : RelocatableByte) → slice_get (o ∷ os) k ≡ Some x → IsHeld image bases d part (offset + k) x
    is_held k x e = held.relocatable_bytes part (offset + k) stand.0 x (record { is_part = stand.1.0; is_relocatable_byte = stand.1.1 k x e })

    byte : (k : ℕ) (x : RelocatableByte) → slice_get (o ∷ os) k ≡ Some x → slice_get image (((start bases d part + offset) - 0x2000) + k) ≡ Some (fill (part_bases bases d) ((start bases d part + offset) + k) x)
    byte k x e =
        let w : 0x2000 ≤ start bases d part + (offset + 0) = (is_held 0 o refl).within in
        let p : ((start bases d part + offset) - 0x2000) + k ≡ (start bases d part + (offset + k)) - 0x2000 = omega (arith, w) in
        let q : start bases d part + (offset + k) ≡ (start bases d part + offset) + k = omega arith in
        ap (slice_get image) p ∙ ((is_held k x e).byte ∙ ap (λ (i : ℕ). Some (fill (part_bases bases d) i x)) q)
