-- Lists that go on together, element by element.
use Rattle.std.proofs.Common.{◌≡◌, ℕ, zero, suc, ◌+◌, ◌<◌, List, [], ◌∷◌, ◌++◌, length, get_or, set, take, drop, refl, sym, ap, subst, ◌∙◌, arith, add-one, drop-cons}
use Rattle.std.proofs.Math.Seq.{drop-nil}
use Rattle.std.proofs.lemmas.List.{take_more, take_more_set, drop-set-lt}
use Rattle.kc_monitor.specs.Watching.{AllThree}

pub three_none : {A B C : Type 0} (R : A → B → C → Type 0) → AllThree R [] [] []
unfolding AllThree
three_none R = tt

pub three_push : {A B C : Type 0} (R : A → B → C → Type 0) (xs : List A) (ys : List B) (zs : List C) (x : A) (y : B) (z : C) → AllThree R xs ys zs → R x y z →
    AllThree R (xs ++ x ∷ []) (ys ++ y ∷ []) (zs ++ z ∷ [])
unfolding AllThree
three_push R [] [] [] x y z all here = (here, tt)
three_push R [] [] (c ∷ zs) x y z all here = absurd all
three_push R [] (b ∷ ys) [] x y z all here = absurd all
three_push R [] (b ∷ ys) (c ∷ zs) x y z all here = absurd all
three_push R (a ∷ xs) [] [] x y z all here = absurd all
three_push R (a ∷ xs) [] (c ∷ zs) x y z all here = absurd all
three_push R (a ∷ xs) (b ∷ ys) [] x y z all here = absurd all
three_push R (a ∷ xs) (b ∷ ys) (c ∷ zs) x y z all here = (all.0, three_push R xs ys zs x y z all.1 here)

-- one more is changed
pub three_more : {A B : Type 0} (R : A → B → B → Type 0) (rs : List A) (ms ns : List B) (i : ℕ) (r : A) (d v : B) → i < length rs → i < length ms → i < length ns →
    drop i ns ≡ drop i ms → r ≡ get_or rs i r → R r (get_or ns i d) v → AllThree R (take i rs) (take i ms) (take i ns) →
    AllThree R (take (i + 1) rs) (take (i + 1) ms) (take (i + 1) (set ns i v))
three_more R rs ms ns i r d v in_rs in_ms in_ns rest is_r here all =
    let both : get_or ns i d ∷ drop (suc i) ns ≡ get_or ms i d ∷ drop (suc i) ms = sym (drop-cons ns i d in_ns) ∙ rest ∙ drop-cons ms i d in_ms in
    let head : get_or ns i d ≡ get_or ms i d = cc in
    let pushed = three_push R (take i rs) (take i ms) (take i ns) r (get_or ns i d) v all here in
    let rs_more : take i rs ++ r ∷ [] ≡ take (i + 1) rs = ap (λ x. take i rs ++ x ∷ []) is_r ∙ sym (take_more rs i r in_rs) in
    let ms_more : take i ms ++ get_or ns i d ∷ [] ≡ take (i + 1) ms = ap (λ x. take i ms ++ x ∷ []) head ∙ sym (take_more ms i d in_ms) in
    let ns_more : take i ns ++ v ∷ [] ≡ take (i + 1) (set ns i v) = sym (take_more_set ns i v in_ns) in
    subst (λ x. AllThree R x (take (i + 1) ms) (take (i + 1) (set ns i v))) rs_more
    (subst (λ y. AllThree R (take i rs ++ r ∷ []) y (take (i + 1) (set ns i v))) ms_more
    (subst (λ z. AllThree R (take i rs ++ r ∷ []) (take i ms ++ get_or ns i d ∷ []) z) ns_more pushed))

-- the rest stays
pub drop_next : {B : Type 0} (ns ms : List B) (i : ℕ) → drop i ns ≡ drop i ms → drop (i + 1) ns ≡ drop (i + 1) ms
drop_next ns ms i rest =
    ap (λ k. drop k ns) (add-one i) ∙ drop_one ns i ∙ ap (λ xs. drop 1 xs) rest ∙ sym (drop_one ms i) ∙ sym (ap (λ k. drop k ms) (add-one i))
  where
    drop_one : {B : Type 0} (xs : List B) (i : ℕ) → drop (suc i) xs ≡ drop 1 (drop i xs)
    drop_one [] i = sym (ap (λ xs. drop 1 xs) (drop-nil i))
    drop_one (x ∷ xs) zero = refl
    drop_one (x ∷ xs) (suc i) = drop_one xs i

pub three_rest : {B : Type 0} (ms ns : List B) (i : ℕ) (v : B) → drop i ns ≡ drop i ms → drop (i + 1) (set ns i v) ≡ drop (i + 1) ms
three_rest ms ns i v rest = drop-set-lt (i + 1) ns i v (omega arith) ∙ drop_next ns ms i rest

pub head_same : {B : Type 0} (ns ms : List B) (i : ℕ) (d : B) → i < length ns → i < length ms → drop i ns ≡ drop i ms → get_or ns i d ≡ get_or ms i d
head_same ns ms i d in_ns in_ms rest =
    let both : get_or ns i d ∷ drop (suc i) ns ≡ get_or ms i d ∷ drop (suc i) ms = sym (drop-cons ns i d in_ns) ∙ rest ∙ drop-cons ms i d in_ms in
    cc
