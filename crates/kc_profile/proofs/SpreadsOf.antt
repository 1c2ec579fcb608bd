-- The spread of some numbers is one.
use Rattle.std.proofs.Common.{◌≡◌, ℕ, ◌+◌, ◌<◌, ◌≤◌, Bool, true, false, cond, min, max, List, [], ◌∷◌, ◌++◌, length, Option, Some, None, All, refl, sym, ◌∙◌, ap, subst, arith}
use Rattle.std.specs.Prelude.{nat_lt, nat_le}
use Rattle.std.specs.Option.{unwrap_or}
use Rattle.std.proofs.lemmas.Bool.Decides.{nat_tests}
use Rattle.std.proofs.lemmas.List.Elements.{All-nil, All-cons, All-weaker}
use Rattle.kc_profile.specs.declared.spread.Moment.{Moment}
use Rattle.kc_profile.specs.declared.spread.Spread.{Spread}
use Rattle.kc_profile.specs.Spreads.{Dated, one, both, with_number, spread_of, IsAmong, IsFirst, IsSpread}

lone : (x : Dated) → IsSpread (x ∷ []) (one x.0 x.1)
lone x = record {
  count = refl;
  low = All-cons (λ (n : Dated). x.0 ≤ n.0) x [] (omega arith) (All-nil (λ (n : Dated). x.0 ≤ n.0));
  high = All-cons (λ (n : Dated). n.0 ≤ x.0) x [] (omega arith) (All-nil (λ (n : Dated). n.0 ≤ x.0));
  least = record { before = []; after = []; when = x.1; stands = refl };
  first = record { later = []; earlier = []; stands = refl; less = All-nil (λ (n : Dated). n.0 < x.0) };
}

none-of : (numbers : List Dated) → spread_of numbers ≡ None → numbers ≡ []
unfolding spread_of
none-of [] h = refl
none-of (x ∷ numbers) h = absurd (cc h)

-- the least of them is one of them
least-one : (t : Spread) (x : Dated) (numbers : List Dated) → IsSpread numbers t → (b : Bool) → nat_le t.least x.0 ≡ b → IsAmong (min t.least x.0) (x ∷ numbers)
least-one t x numbers k true e =
    let le : t.least ≤ x.0 = grind (arith, nat_tests) in
    let m : t.least ≡ min t.least x.0 = omega (arith, le) in
    subst (λ g. IsAmong g (x ∷ numbers)) m (record { before = x ∷ k.least.before; after = k.least.after; when = k.least.when; stands = ap (λ l. x ∷ l) k.least.stands })
least-one t x numbers k false e =
    let lt : x.0 < t.least = grind (arith, nat_tests) in
    let m : x.0 ≡ min t.least x.0 = omega (arith, lt) in
    subst (λ g. IsAmong g (x ∷ numbers)) m (record { before = []; after = numbers; when = x.1; stands = refl })

-- the greatest came first when it is said
first-one : (t : Spread) (x : Dated) (numbers : List Dated) → IsSpread numbers t → (b : Bool) → nat_lt t.greatest x.0 ≡ b →
    IsFirst (max t.greatest x.0) (cond b x.1 t.when) (x ∷ numbers)
first-one t x numbers k true e =
    let lt : t.greatest < x.0 = grind (arith, nat_tests) in
    let m : x.0 ≡ max t.greatest x.0 = omega (arith, lt) in
    subst (λ g. IsFirst g x.1 (x ∷ numbers)) m
    (record { later = []; earlier = numbers; stands = refl; less = All-weaker (λ (n : Dated). n.0 ≤ t.greatest) (λ (n : Dated). n.0 < x.0) (λ n h. omega (arith, h, lt)) numbers k.high })
first-one t x numbers k false e =
    let le : x.0 ≤ t.greatest = grind (arith, nat_tests) in
    let m : t.greatest ≡ max t.greatest x.0 = omega (arith, le) in
    subst (λ g. IsFirst g t.when (x ∷ numbers)) m
    (record { later = x ∷ k.first.later; earlier = k.first.earlier; stands = ap (λ l. x ∷ l) k.first.stands; less = k.first.less })

more : (t : Spread) (x : Dated) (numbers : List Dated) → IsSpread numbers t → IsSpread (x ∷ numbers) (both t (one x.0 x.1))
more t x numbers k = record {
  count = (let c = k.count in omega (arith, c));
  low = All-cons (λ (n : Dated). min t.least x.0 ≤ n.0) x numbers (omega arith) (All-weaker (λ (n : Dated). t.least ≤ n.0) (λ (n : Dated). min t.least x.0 ≤ n.0) (λ n h. omega (arith, h)) numbers k.low);
  high = All-cons (λ (n : Dated). n.0 ≤ max t.greatest x.0) x numbers (omega arith) (All-weaker (λ (n : Dated). n.0 ≤ t.greatest) (λ (n : Dated). n.0 ≤ max t.greatest x.0) (λ n h. omega (arith, h)) numbers k.high);
  least = least-one t x numbers k (nat_le t.least x.0) refl;
  first = first-one t x numbers k (nat_lt t.greatest x.0) refl;
}

pub spreads-are : (numbers : List Dated) (s : Spread) → spread_of numbers ≡ Some s → IsSpread numbers s
unfolding spread_of
spreads-are [] s h = absurd (cc h)
spreads-are (x ∷ numbers) s h = by (spread_of numbers) refl (λ t e. spreads-are numbers t e)
  where
    same : (t : Spread) → Some t ≡ Some s → t ≡ s
    same t e = ap (λ (o : Option Spread). unwrap_or o s) e

    by : (o : Option Spread) → spread_of numbers ≡ o → ((t : Spread) → spread_of numbers ≡ Some t → IsSpread numbers t) → IsSpread (x ∷ numbers) s
    by None e again =
        let alone : one x.0 x.1 ≡ s = same (one x.0 x.1) (ap (λ (o : Option Spread). Some (with_number x.0 x.1 o)) (sym e) ∙ h) in
        subst (λ (l : List Dated). IsSpread (x ∷ l) s) (sym (none-of numbers e)) (subst (λ (t : Spread). IsSpread (x ∷ []) t) alone (lone x))
    by (Some t) e again =
        let together : both t (one x.0 x.1) ≡ s = same (both t (one x.0 x.1)) (ap (λ (o : Option Spread). Some (with_number x.0 x.1 o)) (sym e) ∙ h) in
        subst (λ (u : Spread). IsSpread (x ∷ numbers) u) together (more t x numbers (again t e))
