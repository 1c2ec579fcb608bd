-- Where pieces are placed, every relocation fits, and the bases are those of the places.
use Rattle.std.proofs.Common.{◌≡◌, ℕ, zero, suc, ◌+◌, List, [], ◌∷◌, Option, Some, None, refl, sym, ap, ◌∙◌, subst, arith}
use Rattle.std.specs.Prelude.{slice_get, Result, Ok, Err}
use Rattle.std.specs.Option.{option_or}
use Rattle.kc_obj_module.specs.declared.parts.Fixup.{Fixup}
use Rattle.kc_obj_module.specs.Object.{Object}
use Rattle.kc_link_place.specs.BaseLists.{BaseLists}
use Rattle.kc_link_place.specs.Filled.{unfit_in}
use Rattle.kc_link_place.specs.declared.ranges.Ranges.{Ranges}
use Rattle.kc_link_place.specs.declared.ranges.LinkFault.{LinkFault}
use Rattle.kc_link_place.specs.declared.ranges.LinkFault.TheVariants.{Unresolved, OverlapName, OverlapPlace, Capacity, Range, NoMemory}
use Rattle.kc_link_place.specs.Placing.{Places, bases_of, bases_from, located, IsCause}
use Rattle.kc_link.specs.Placed.{range_fault, unfit, unfit_by, or_fault, with_places, placed}

pub unfit_same : (all : List Object) (places : Places) (n : ℕ) (ms : List Object) → unfit_by n ms (bases_from all places n ms) ≡ unfit all places n ms
unfolding unfit unfit_by bases_from
unfit_same all places n [] = refl
unfit_same all places n (m ∷ ms) = ap (option_or (range_fault n (unfit_in (bases_of all places n m) m.fixups))) (unfit_same all places (n + 1) ms)

range-none : (n : ℕ) (o : Option Fixup) (rest : Option LinkFault) → option_or (range_fault n o) rest ≡ None → (o ≡ None) × (rest ≡ None)
range-none n None rest e = (refl, e)
range-none n (Some f) rest e = absurd (cc e)

pub module_fits : (all : List Object) (places : Places) (n : ℕ) (ms : List Object) → unfit all places n ms ≡ None → (k i : ℕ) (m : Object) → n + k ≡ i → slice_get ms k ≡ Some m →
    unfit_in (bases_of all places i m) m.fixups ≡ None
unfolding unfit
module_fits all places n [] h k i m q e = absurd (cc e)
module_fits all places n (x ∷ ms) h zero i m q e =
    let r = range-none n (unfit_in (bases_of all places n x) x.fixups) (unfit all places (n + 1) ms) h in
    let f : x ≡ m = cc e in
    let p : n ≡ i = omega (arith, q) in
    subst (λ (y : Object). unfit_in (bases_of all places i y) y.fixups ≡ None) f (subst (λ (j : ℕ). unfit_in (bases_of all places j x) x.fixups ≡ None) p r.0)
module_fits all places n (x ∷ ms) h (suc k) i m q e =
    let r = range-none n (unfit_in (bases_of all places n x) x.fixups) (unfit all places (n + 1) ms) h in
    let p : (n + 1) + k ≡ i = omega (arith, q) in
    module_fits all places (n + 1) ms r.1 k i m p e

pub rest_fits : (all : List Object) (places : Places) (n : ℕ) (m : Object) (ms : List Object) → unfit all places n (m ∷ ms) ≡ None → unfit all places (n + 1) ms ≡ None
unfolding unfit
rest_fits all places n m ms h = (range-none n (unfit_in (bases_of all places n m) m.fixups) (unfit all places (n + 1) ms) h).1

-- ---- placed, from what is located

cause_map : (P Q : Type 0) (fault : LinkFault) → IsCause fault P → (P → Q) → IsCause fault Q
cause_map P Q (Unresolved t) c f = f c
cause_map P Q (OverlapName t) c f = f c
cause_map P Q (OverlapPlace a) c f = f c
cause_map P Q (Capacity k i) c f = f c
cause_map P Q (Range i p o) c f = f c
cause_map P Q NoMemory c f = tt

pub placed_ok : (ms : List Object) (ranges : Ranges) (places : Places) (bs : List BaseLists) → located ms ranges ≡ Ok places → bs ≡ bases_from ms places 0 ms → unfit_by 0 ms bs ≡ None → placed ms ranges ≡ Ok places
unfolding placed
placed_ok ms ranges places bs l b u =
    let v : unfit ms places 0 ms ≡ None = sym (unfit_same ms places 0 ms) ∙ (rw b at u) in
    rw l (rw v refl)

pub placed_err : (ms : List Object) (ranges : Ranges) (places : Places) (bs : List BaseLists) (fault : LinkFault) → located ms ranges ≡ Ok places → bs ≡ bases_from ms places 0 ms → IsCause fault (unfit_by 0 ms bs ≡ Some fault) →
    IsCause fault (placed ms ranges ≡ Err fault)
unfolding placed
placed_err ms ranges places bs fault l b c = cause_map (unfit_by 0 ms bs ≡ Some fault) (placed ms ranges ≡ Err fault) fault c (λ u.
    let v : unfit ms places 0 ms ≡ Some fault = sym (unfit_same ms places 0 ms) ∙ (rw b at u) in
    rw l (rw v refl))

pub record WasLocated (ms : List Object) (ranges : Ranges) (places : Places) : Type 0 where
  pub located_ok : located ms ranges ≡ Ok places
  pub fit : unfit ms places 0 ms ≡ None

or-ok : (o : Option LinkFault) (p places : Places) → or_fault o p ≡ Ok places → (o ≡ None) × (p ≡ places)
or-ok None p places e = (refl, cc e)
or-ok (Some f) p places e = absurd (cc e)

pub was_located : (ms : List Object) (ranges : Ranges) (places : Places) → placed ms ranges ≡ Ok places → WasLocated ms ranges places
unfolding placed
was_located ms ranges places e = by (located ms ranges) refl e
  where
    by : (r : Result Places LinkFault) → located ms ranges ≡ r → with_places ms r ≡ Ok places → WasLocated ms ranges places
    by (Err f) q g = absurd (cc g)
    by (Ok p) q g =
        let h = or-ok (unfit ms p 0 ms) p places g in
        record { located_ok = q ∙ ap (λ (x : Places). Ok x) h.1; fit = subst (λ (x : Places). unfit ms x 0 ms ≡ None) h.1 h.0 }
