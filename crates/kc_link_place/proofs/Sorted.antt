-- Relocations in order: the one of a place is found where those before it end.
use Rattle.std.proofs.Common.{◌≡◌, ℕ, zero, suc, ◌+◌, Bool, true, false, ◌&&◌, ◌||◌, eqb, ltb, leb, List, [], ◌∷◌, length, Option, Some, None, refl, sym, arith}
use Rattle.std.specs.Prelude.{if◌then◌else◌, slice_get}
use Rattle.std.specs.List.Sorted.{IsPartitionedBy, IsPartitionPoint}
use Rattle.std.proofs.lemmas.Bool.{and_parts}
use Rattle.std.proofs.lemmas.Bool.Decides.{nat_tests}
use Rattle.std.specs.Borrow.{Bor}
use Rattle.std.specs.Slice.{IsItemAt}
use Rattle.std.specs.Option.{option_copied}
use Rattle.std.proofs.lemmas.Option.{slice_get_past, slice_get_read}
use Rattle.kc_obj_module.specs.declared.parts.Fixup.{Fixup}
use Rattle.kc_obj_module.specs.Numbers.{width}
use Rattle.kc_obj_module.specs.Fixups.{fixup_follows, fixups_in_order, fixup_at}
use Rattle.kc_obj_module.proofs.RoomLemmas.{rest_in_order, next_follows}
use Rattle.kc_link_place.specs.Filled.{is_before, if_there}

-- ---- on plain numbers: a relocation at offset o of piece q with another one at r of s behind it

before_step : (q o w s r p k : ℕ) → (ltb q s || (eqb q s && leb (o + w) r)) ≡ true → (ltb s p || (eqb s p && ltb r k)) ≡ true → (ltb q p || (eqb q p && ltb o k)) ≡ true
before_step q o w s r p k h t = grind (arith, nat_tests)

before_apart : (q o p k : ℕ) → (ltb q p || (eqb q p && ltb o k)) ≡ true → (eqb q p && eqb o k) ≡ false
before_apart q o p k h = grind (arith, nat_tests)

abbrev is_behind : ℕ → ℕ → ℕ → ℕ → Bool
is_behind p k q o = ltb p q || (eqb p q && ltb k o)

behind_of : (q o p k : ℕ) → (ltb q p || (eqb q p && ltb o k)) ≡ false → (eqb q p && eqb o k) ≡ false → is_behind p k q o ≡ true
behind_of q o p k h t = grind (arith, nat_tests)

behind_apart : (q o p k : ℕ) → is_behind p k q o ≡ true → (eqb q p && eqb o k) ≡ false
behind_apart q o p k h = grind (arith, nat_tests)

behind_step : (q o w s r p k : ℕ) → (ltb q s || (eqb q s && leb (o + w) r)) ≡ true → is_behind p k q o ≡ true → is_behind p k s r ≡ true
behind_step q o w s r p k h t = grind (arith, nat_tests)

-- ---- on relocations

pub partitioned : (p k : ℕ) (fs : List Fixup) → fixups_in_order fs ≡ true → IsPartitionedBy (is_before p k) fs
partitioned p k [] h i j d le lt t = absurd (omega arith)
partitioned p k (f ∷ fs) h zero zero d le lt t = t
partitioned p k (f ∷ []) h zero (suc j) d le lt t = absurd (omega arith)
partitioned p k (f ∷ g ∷ fs) h zero (suc j) d le lt t =
    let first : is_before p k g ≡ true = partitioned p k (g ∷ fs) (rest_in_order f (g ∷ fs) h) zero j d (omega arith) (omega arith) t in
    before_step f.piece f.offset (width f.kind) g.piece g.offset p k (next_follows f g fs h) first
partitioned p k (f ∷ fs) h (suc i) zero d le lt t = absurd (omega arith)
partitioned p k (f ∷ fs) h (suc i) (suc j) d le lt t = partitioned p k fs (rest_in_order f fs h) i j d (omega arith) (omega arith) t

pub none_behind : (p k : ℕ) (f : Fixup) (fs : List Fixup) → fixups_in_order (f ∷ fs) ≡ true → is_behind p k f.piece f.offset ≡ true → fixup_at (f ∷ fs) p k ≡ None
unfolding fixup_at
none_behind p k f [] h b = rw (behind_apart f.piece f.offset p k b) refl
none_behind p k f (g ∷ fs) h b =
    rw (behind_apart f.piece f.offset p k b)
    (none_behind p k g fs (rest_in_order f (g ∷ fs) h) (behind_step f.piece f.offset (width f.kind) g.piece g.offset p k (next_follows f g fs h) b))

first_here : (p k : ℕ) (f : Fixup) (fs : List Fixup) → fixups_in_order (f ∷ fs) ≡ true → is_before p k f ≡ false → (t : Bool) → (eqb f.piece p && eqb f.offset k) ≡ t → fixup_at (f ∷ fs) p k ≡ (if t then Some f else None)
unfolding fixup_at
first_here p k f fs h b true e = rw e refl
first_here p k f fs h b false e = none_behind p k f fs h (behind_of f.piece f.offset p k b e)

pub found_at : (p k : ℕ) (fs : List Fixup) (i : ℕ) → fixups_in_order fs ≡ true → IsPartitionPoint (λ f. is_before p k f ≡ true) (λ f. is_before p k f ≡ false) fs i → if_there p k (slice_get fs i) ≡ fixup_at fs p k
unfolding fixup_at
found_at p k [] i h point = refl
found_at p k (f ∷ fs) zero h point = sym (first_here p k f fs h (point.1 zero f (omega arith) (omega arith)) (eqb f.piece p && eqb f.offset k) refl)
found_at p k (f ∷ fs) (suc i) h point =
    rw (before_apart f.piece f.offset p k (point.0 zero f (omega arith) (omega arith)))
    (found_at p k fs i (rest_in_order f fs h) ((λ n d l m. point.0 (suc n) d (omega arith) (omega arith)), (λ n d l m. point.1 (suc n) d (omega arith) (omega arith))))

pub item_there : (fs : List Fixup) (i : ℕ) (r : Option (Bor Fixup)) → IsItemAt fs i r → option_copied r ≡ slice_get fs i
item_there fs i None h = sym (slice_get_past fs i h.3)
item_there fs i (Some x) h = sym (slice_get_read fs (length fs) i x.now refl h.3.0 (h.3.1 x.now))
