-- Public names of which no two are the same have an order.
use Rattle.std.proofs.Common.{◌≡◌, ℕ, Bool, true, false, not, ◌&&◌, ◌||◌, ◌==◌, cond, List, [], ◌∷◌, map, refl, ap, arith}
use Rattle.std.specs.Prelude.{nat_lt, nat_eq}
use Rattle.std.specs.List.{list_all, IsDistinct, AllByRecursion}
use Rattle.std.specs.List.Sorted.{IsPermutation}
use Rattle.std.specs.Cmp.Lexicographic.{pointwise}
use Rattle.std.proofs.lemmas.Bool.{and_parts, and_from, or_parts}
use Rattle.std.proofs.lemmas.Bool.Decides.{nat_tests}
use Rattle.std.proofs.lemmas.List.Sorted.{IsPermutation-refl, IsPermutation-cons, IsPermutation-trans}
use Rattle.kc_obj_module.specs.declared.parts.Given.{Given}
use Rattle.kc_obj_module.specs.Names.{is_below}
use Rattle.kc_obj_module.specs.Rules.{publics_in_order}
use Rattle.kc_asm_section.specs.declared.unlinked.Public.{Public}
use Rattle.kc_asm_section.specs.Publics.{given_of, is_same_name}
use Rattle.kc_asm_laws.proofs.Numbers.{all_permuted}

-- ---- of two names that are not the same one is below the other

or_true : (b : Bool) → (b || true) ≡ true
or_true true = refl
or_true false = refl

not_second : (a b : Bool) → a ≡ true → (a && b) ≡ false → b ≡ false
not_second true b e h = h
not_second false b e h = absurd (cc e)

not_third : (a b c : Bool) → b ≡ true → (a || (b && c)) ≡ false → c ≡ false
not_third a b c e h = not_second b c e (or_parts a (b && c) h).1

order : (c e : ℕ) (x y p : Bool) → (nat_lt c e || ((c == e) && x)) ≡ false → (nat_eq c e && p) ≡ false → (x ≡ false → p ≡ false → y ≡ true) → (nat_lt e c || ((e == c) && y)) ≡ true
order c e x y p h k f = by (c == e) refl
  where
    by : (b : Bool) → (c == e) ≡ b → (nat_lt e c || ((e == c) && y)) ≡ true
    by true q =
        let eq : nat_eq c e ≡ true = grind (arith, nat_tests, q) in
        let back : (e == c) ≡ true = grind (arith, nat_tests, q) in
        let yes : y ≡ true = f (not_third (nat_lt c e) (c == e) x q h) (not_second (nat_eq c e) p eq k) in
        rw (back, yes) (or_true (nat_lt e c))
    by false q =
        let no : nat_lt c e ≡ false = (or_parts (nat_lt c e) ((c == e) && x) h).0 in
        let less : nat_lt e c ≡ true = grind (arith, nat_tests, q, no) in
        rw less refl

below_total : (a b : List ℕ) → is_below a b ≡ false → pointwise nat_eq a b ≡ false → is_below b a ≡ true
unfolding is_below
below_total [] [] h d = absurd (cc d)
below_total [] (e ∷ es) h d = absurd (cc h)
below_total (c ∷ cs) [] h d = refl
below_total (c ∷ cs) (e ∷ es) h d = order c e (is_below cs es) (is_below es cs) (pointwise nat_eq cs es) h d (below_total cs es)

-- ---- a name at its place among sorted ones

abbrev pub put_in : Given → List Given → List Given
put_in g [] = g ∷ []
put_in g (h ∷ hs) = cond (is_below g.name h.name) (g ∷ h ∷ hs) (h ∷ put_in g hs)

exchanged : (g h : Given) (hs : List Given) → IsPermutation (g ∷ h ∷ hs) (h ∷ g ∷ hs)
exchanged g h hs = record { moves = (0, 1) ∷ []; below = (omega arith, omega arith, tt); is = refl }

put_same : (g : Given) (hs : List Given) → IsPermutation (g ∷ hs) (put_in g hs)
put_same g [] = IsPermutation-refl (g ∷ [])
put_same g (h ∷ hs) =
    let later : IsPermutation (g ∷ h ∷ hs) (h ∷ put_in g hs) = IsPermutation-trans (g ∷ h ∷ hs) (h ∷ g ∷ hs) (h ∷ put_in g hs) (exchanged g h hs) (IsPermutation-cons h (g ∷ hs) (put_in g hs) (put_same g hs)) in
    elim (is_below g.name h.name) as (λ b. IsPermutation (g ∷ h ∷ hs) (cond b (g ∷ h ∷ hs) (h ∷ put_in g hs))) [
      | true ↦ IsPermutation-refl (g ∷ h ∷ hs)
      | false ↦ later
    ]

-- it has another name
abbrev differs : Given → Given → Bool
differs g h = not (pointwise nat_eq g.name h.name)

not_same : (b : Bool) → not b ≡ true → b ≡ false
not_same true h = absurd (cc h)
not_same false h = refl

behind : (h g : Given) (hs : List Given) → publics_in_order (h ∷ hs) ≡ true → is_below h.name g.name ≡ true → publics_in_order (put_in g hs) ≡ true → publics_in_order (h ∷ put_in g hs) ≡ true
unfolding publics_in_order
behind h g [] o b r = and_from (is_below h.name g.name) true b refl
behind h g (k ∷ ks) o b r = by (is_below g.name k.name) r
  where
    by : (t : Bool) → publics_in_order (cond t (g ∷ k ∷ ks) (k ∷ put_in g ks)) ≡ true → publics_in_order (h ∷ cond t (g ∷ k ∷ ks) (k ∷ put_in g ks)) ≡ true
    by true q = and_from (is_below h.name g.name) (publics_in_order (g ∷ k ∷ ks)) b q
    by false q = and_from (is_below h.name k.name) (publics_in_order (k ∷ put_in g ks)) (and_parts (is_below h.name k.name) (publics_in_order (k ∷ ks)) o).0 q

rest_ordered : (h : Given) (hs : List Given) → publics_in_order (h ∷ hs) ≡ true → publics_in_order hs ≡ true
unfolding publics_in_order
rest_ordered h [] o = refl
rest_ordered h (k ∷ ks) o = (and_parts (is_below h.name k.name) (publics_in_order (k ∷ ks)) o).1

put_ordered : (g : Given) (hs : List Given) → publics_in_order hs ≡ true → list_all (differs g) hs ≡ true → publics_in_order (put_in g hs) ≡ true
unfolding publics_in_order
put_ordered g [] o d = refl
put_ordered g (h ∷ hs) o d =
    let both = and_parts (differs g h) (list_all (differs g) hs) d in
    by (is_below g.name h.name) refl (put_ordered g hs (rest_ordered h hs o) both.1) (not_same (pointwise nat_eq g.name h.name) both.0)
  where
    by : (t : Bool) → is_below g.name h.name ≡ t → publics_in_order (put_in g hs) ≡ true → pointwise nat_eq g.name h.name ≡ false → publics_in_order (cond t (g ∷ h ∷ hs) (h ∷ put_in g hs)) ≡ true
    by true e r n = and_from (is_below g.name h.name) (publics_in_order (h ∷ hs)) e o
    by false e r n = behind h g hs o (below_total g.name h.name e n) r

-- ---- all of them

module _ (number : ℕ → ℕ) where
  abbrev pub sorted : List Public → List Given
  sorted [] = []
  sorted (p ∷ ps) = put_in (given_of number p) (sorted ps)

  pub sorted_same : (ps : List Public) → IsPermutation (map (given_of number) ps) (sorted ps)
  sorted_same [] = IsPermutation-refl []
  sorted_same (p ∷ ps) =
      IsPermutation-trans (given_of number p ∷ map (given_of number) ps) (given_of number p ∷ sorted ps) (put_in (given_of number p) (sorted ps))
      (IsPermutation-cons (given_of number p) (map (given_of number) ps) (sorted ps) (sorted_same ps)) (put_same (given_of number p) (sorted ps))

  all_differ : (p : Public) (ps : List Public) → AllByRecursion (λ y. is_same_name p y ≡ false) ps → list_all (differs (given_of number p)) (map (given_of number) ps) ≡ true
  all_differ p [] h = refl
  all_differ p (q ∷ ps) h = and_from (differs (given_of number p) (given_of number q)) (list_all (differs (given_of number p)) (map (given_of number) ps)) (ap not h.0) (all_differ p ps h.1)

  pub sorted_ordered : (ps : List Public) → IsDistinct is_same_name ps → publics_in_order (sorted ps) ≡ true
  unfolding IsDistinct publics_in_order
  sorted_ordered [] h = refl
  sorted_ordered (p ∷ ps) h =
      put_ordered (given_of number p) (sorted ps) (sorted_ordered ps h.1)
      (all_permuted (differs (given_of number p)) (map (given_of number) ps) (sorted ps) (sorted_same ps) (all_differ p ps h.0))
