-- Names by rising order.
use Rattle.std.proofs.Common.{◌≡◌, ℕ, ◌+◌, ◌<◌, Bool, true, false, ◌&&◌, ◌||◌, eqb, ltb, cond, List, [], ◌∷◌, map, length, get_or, refl, add-one, arith}
use Rattle.std.specs.List.{IsDistinct, AllByRecursion}
use Rattle.std.specs.Ordering.{nat_cmp, is_lt, ordering_then}
use Rattle.std.specs.List.Sorted.{IsSortedBy, IsPermutation}
use Rattle.std.specs.Cmp.Lexicographic.{slice_cmp, pointwise}
use Rattle.std.specs.Prelude.{nat_eq}
use Rattle.std.proofs.lemmas.Bool.Decides.{nat_tests}
use Rattle.std.proofs.lemmas.Map.Keys.{IsDistinct-IsPermutation}
use Rattle.std.specs.declared.cmp.Ordering.{Ordering}
use Rattle.std.specs.declared.cmp.Ordering.TheVariants.{Less, Equal, Greater}
use Rattle.kc_obj_module.specs.declared.parts.Given.{Given}
use Rattle.kc_obj_module.specs.Names.{is_below}
use Rattle.kc_obj_module.specs.Rules.{publics_in_order}
use Rattle.kc_asm_section.specs.declared.unlinked.Public.{Public}
use Rattle.kc_asm_section.specs.Publics.{is_before, is_same_name, given_of}

-- ---- neither after a name nor the same: before it

greater : (c d : ℕ) (below : Bool) → ltb d c ≡ false → eqb d c ≡ false → (ltb c d || (eqb c d && below)) ≡ true
greater c d below h k = grind (arith, nat_tests)

equal : (c d : ℕ) (below : Bool) → eqb d c ≡ true → below ≡ true → (ltb c d || (eqb c d && below)) ≡ true
equal c d below h k = grind (arith, nat_tests)

equal_rest : (c d : ℕ) (same : Bool) → eqb d c ≡ true → (nat_eq c d && same) ≡ false → same ≡ false
equal_rest c d true h k = grind (arith, nat_tests)
equal_rest c d false h k = refl

step : (c d : ℕ) (rest : Ordering) (same below : Bool) (less tied : Bool) → ltb d c ≡ less → eqb d c ≡ tied
    → is_lt (ordering_then (cond less Less (cond tied Equal Greater)) rest) ≡ false
    → (nat_eq c d && same) ≡ false
    → (is_lt rest ≡ false → same ≡ false → below ≡ true)
    → (ltb c d || (eqb c d && below)) ≡ true
step c d rest same below true tied p q h k more = absurd (cc)
step c d rest same below false true p q h k more = equal c d below q (more h (equal_rest c d same q k))
step c d rest same below false false p q h k more = greater c d below p q

pub is_below_by : (a b : List ℕ) → is_lt (slice_cmp nat_cmp b a) ≡ false → pointwise nat_eq a b ≡ false → is_below a b ≡ true
unfolding is_below
is_below_by [] [] h k = absurd (cc)
is_below_by [] (d ∷ ds) h k = refl
is_below_by (c ∷ cs) [] h k = absurd (cc)
is_below_by (c ∷ cs) (d ∷ ds) h k = step c d (slice_cmp nat_cmp ds cs) (pointwise nat_eq cs ds) (is_below cs ds) (ltb d c) (eqb d c) refl refl h k (is_below_by cs ds)

-- ---- sorted, and no name twice

abbrev pub same_given : Given → Given → Bool
same_given g h = pointwise nat_eq g.name h.name

abbrev Neighbours : List Given → Type 0
Neighbours gs = (k : ℕ) (d : Given) → k + 1 < length gs → is_before (get_or gs (k + 1) d) (get_or gs k d) ≡ false

rest_of : (g : Given) (gs : List Given) → Neighbours (g ∷ gs) → Neighbours gs
rest_of g gs h k d lt =
    let one : get_or (g ∷ gs) (k + 1) d ≡ get_or gs k d = rw add-one refl in
    let two : get_or (g ∷ gs) (k + 1 + 1) d ≡ get_or gs (k + 1) d = rw (add-one (k + 1)) refl in
    rw (← one, ← two) (h (k + 1) d (omega arith))

first_two : (g h : Given) (gs : List Given) → Neighbours (g ∷ h ∷ gs) → is_before h g ≡ false
first_two g h gs n = n 0 g (omega arith)

both : (a b : Bool) → a ≡ true → b ≡ true → (a && b) ≡ true
both a b p q = rw (p, q) refl

in_order : (gs : List Given) → Neighbours gs → IsDistinct same_given gs → publics_in_order gs ≡ true
unfolding publics_in_order IsDistinct
in_order [] n d = refl
in_order (g ∷ []) n d = refl
in_order (g ∷ h ∷ gs) n d =
    both (is_below g.name h.name) (publics_in_order (h ∷ gs)) (is_below_by g.name h.name (first_two g h gs n) d.0.0) (in_order (h ∷ gs) (rest_of g (h ∷ gs) n) d.1)

-- ---- from the public names to what the module gives

none_same : (number : ℕ → ℕ) (p : Public) (ps : List Public) → AllByRecursion (λ q. is_same_name p q ≡ false) ps → AllByRecursion (λ h. same_given (given_of number p) h ≡ false) (map (given_of number) ps)
none_same number p [] a = tt
none_same number p (q ∷ qs) a = (a.0, none_same number p qs a.1)

given_distinct : (number : ℕ → ℕ) (ps : List Public) → IsDistinct is_same_name ps → IsDistinct same_given (map (given_of number) ps)
unfolding IsDistinct
given_distinct number [] d = tt
given_distinct number (p ∷ ps) d = (none_same number p ps d.0, given_distinct number ps d.1)

eq_flips : (a b : List ℕ) → pointwise nat_eq a b ≡ pointwise nat_eq b a
eq_flips [] [] = refl
eq_flips [] (d ∷ ds) = refl
eq_flips (c ∷ cs) [] = refl
eq_flips (c ∷ cs) (d ∷ ds) =
    let one : nat_eq c d ≡ nat_eq d c = grind (arith, nat_tests) in
    (λ i. one i && eq_flips cs ds i)

pub sorted_publics : (number : ℕ → ℕ) (ps : List Public) (gs : List Given) → IsDistinct is_same_name ps → IsPermutation (map (given_of number) ps) gs → IsSortedBy is_before gs → publics_in_order gs ≡ true
sorted_publics number ps gs d same sorted =
    in_order gs (λ k x lt. sorted k x (omega arith) lt) (IsDistinct-IsPermutation same_given (λ g h. eq_flips g.name h.name) (map (given_of number) ps) gs same (given_distinct number ps d))
