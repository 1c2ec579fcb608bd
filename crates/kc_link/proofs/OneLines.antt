-- Line entries by rising address are given by what they are.
use Rattle.std.proofs.Common.{◌≡◌, ℕ, zero, suc, ◌<◌, List, [], ◌∷◌, length, get_or, refl, sym, ◌∙◌, subst, ◌⊎◌, inl, inr, arith}
use Rattle.std.specs.List.{Contains}
use Rattle.std.specs.List.Sorted.{IsPermutation}
use Rattle.std.proofs.lemmas.List.Sorted.{IsPermutation-trans, IsPermutation-sym, Contains-permutation}
use Rattle.kc_link.specs.declared.lines.LineAt.{LineAt}
use Rattle.kc_link.specs.LineMap.{lines_of, Rises}
use Rattle.kc_link.specs.Linked.{OneLineMap}

abbrev In : LineAt → List LineAt → Type 0
In x [] = ⊥
In x (y ∷ ys) = (y ≡ x) ⊎ In x ys

abbrev Sub : List LineAt → List LineAt → Type 0
Sub xs ys = (x : LineAt) → In x xs → In x ys

in_from : (xs : List LineAt) (x : LineAt) (k : ℕ) → k < length xs → get_or xs k x ≡ x → In x xs
in_from [] x k lt h = absurd (omega arith)
in_from (y ∷ ys) x zero lt h = inl h
in_from (y ∷ ys) x (suc k) lt h = inr (in_from ys x k (omega arith) h)

contains_later : (y : LineAt) (ys : List LineAt) (x : LineAt) → Contains ys x → Contains (y ∷ ys) x
contains_later y ys x h = (suc h.0, omega (arith, h.1), h.2)

contains_from : (xs : List LineAt) (x : LineAt) → In x xs → Contains xs x
contains_from [] x h = absurd h
contains_from (y ∷ ys) x h = elim h [ inl e ↦ (zero, omega arith, e) | inr k ↦ contains_later y ys x (contains_from ys x k) ]

sub_from : (xs ys : List LineAt) → IsPermutation xs ys → Sub xs ys
sub_from xs ys same x h = let there = Contains-permutation xs ys x same (contains_from xs x h) in in_from ys x there.0 there.1 there.2

-- ---- rising addresses

rest_rises : (l : LineAt) (ls : List LineAt) → Rises (l ∷ ls) → Rises ls
rest_rises l [] h = tt
rest_rises l (k ∷ ls) h = h.1

all_above : (l : LineAt) (ls : List LineAt) → Rises (l ∷ ls) → (x : LineAt) → In x ls → l.addr < x.addr
all_above l [] h x there = absurd there
all_above l (k ∷ ls) h x there =
    let one : l.addr < k.addr = h.0 in
    elim there [
      | inl e ↦ subst (λ (z : LineAt). l.addr < z.addr) e one
      | inr j ↦ (let far : k.addr < x.addr = all_above k ls h.1 x j in omega (arith, one, far))
    ]

heads : (y z : LineAt) (ys zs : List LineAt) → Rises (y ∷ ys) → Rises (z ∷ zs) → Sub (y ∷ ys) (z ∷ zs) → Sub (z ∷ zs) (y ∷ ys) → y ≡ z
heads y z ys zs a b f g =
    elim (f y (inl refl)) [
      | inl e ↦ sym e
      | inr k ↦ elim (g z (inl refl)) [
        | inl e ↦ e
        | inr l ↦
            let up : y.addr < z.addr = all_above y ys a z l in
            let down : z.addr < y.addr = all_above z zs b y k in
            absurd (omega (arith, up, down))
      ]
    ]

rest_sub : (y z : LineAt) (ys zs : List LineAt) → Rises (y ∷ ys) → y ≡ z → Sub (y ∷ ys) (z ∷ zs) → Sub ys zs
rest_sub y z ys zs a e f x h =
    elim (f x (inr h)) [
      | inl same ↦
          let above : y.addr < y.addr = subst (λ (w : LineAt). y.addr < w.addr) (sym (e ∙ same)) (all_above y ys a x h) in
          absurd (omega (arith, above))
      | inr k ↦ k
    ]

same_lines : (ys zs : List LineAt) → Rises ys → Rises zs → Sub ys zs → Sub zs ys → ys ≡ zs
same_lines [] [] a b f g = refl
same_lines [] (z ∷ zs) a b f g = absurd (g z (inl refl))
same_lines (y ∷ ys) [] a b f g = absurd (f y (inl refl))
same_lines (y ∷ ys) (z ∷ zs) a b f g =
    let first : y ≡ z = heads y z ys zs a b f g in
    let rest : ys ≡ zs = same_lines ys zs (rest_rises y ys a) (rest_rises z zs b) (rest_sub y z ys zs a first f) (rest_sub z y zs ys b (sym first) g) in
    (λ i. first i ∷ rest i)

pub one_line_map : OneLineMap
one_line_map ms places entries other h k =
    let all = lines_of ms places 0 ms in
    let over : IsPermutation entries other = IsPermutation-trans entries all other (IsPermutation-sym all entries h.same) k.same in
    same_lines entries other h.rises k.rises (sub_from entries other over) (sub_from other entries (IsPermutation-sym entries other over))
