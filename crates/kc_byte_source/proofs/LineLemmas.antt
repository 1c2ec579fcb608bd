-- The first line of a text, whatever comes behind the text.
use Rattle.std.proofs.Common.{◌≡◌, ℕ, suc, ◌+◌, ◌-◌, ◌<◌, ◌≤◌, inl, inr, Bool, true, false, cond, not, ◌&&◌, eqb, ltb, List, [], ◌∷◌, ◌++◌, length, take, drop, get_or, refl, sym, ap, ◌∙◌, append-nil, length-append, arith}
use Rattle.std.proofs.lemmas.Bool.{cases_lt}
use Rattle.std.proofs.lemmas.List.{take-append-le, drop-append-le, get_or_append_left, length-take}
use Rattle.kc_base.specs.TextLines.{text_lines}
use Rattle.kc_base.proofs.TextLineLemmas.{up_to_end, whole_line, ended_line}
use Rattle.kc_byte_source.specs.Feed.{IsLineOf}

-- a line feed in the text is the first one, whatever comes behind
up-append : (a b : List ℕ) → length (up_to_end a) < length a → up_to_end (a ++ b) ≡ up_to_end a
up-append [] b h = absurd (omega arith)
up-append (c ∷ cs) b h =
    elim (eqb c 10) as (λ e. length (cond (not e) (c ∷ up_to_end cs) []) < suc (length cs) → cond (not e) (c ∷ up_to_end (cs ++ b)) [] ≡ cond (not e) (c ∷ up_to_end cs) []) [
      | true ↦ λ l. refl
      | false ↦ λ l. ap (λ (w : List ℕ). c ∷ w) (up-append cs b (omega arith))
    ] h

-- where there is none in the text, the first one stands behind it
up-long : (a b : List ℕ) → length (up_to_end a) ≡ length a → length a ≤ length (up_to_end (a ++ b))
up-long [] b h = omega arith
up-long (c ∷ cs) b h =
    elim (eqb c 10) as (λ e. length (cond (not e) (c ∷ up_to_end cs) []) ≡ suc (length cs) → suc (length cs) ≤ length (cond (not e) (c ∷ up_to_end (cs ++ b)) [])) [
      | true ↦ λ l. absurd (omega arith)
      | false ↦ λ l. let rest : length cs ≤ length (up_to_end (cs ++ b)) = up-long cs b (omega arith) in omega arith
    ] h

pub up-short : (a : List ℕ) → length (up_to_end a) ≤ length a
up-short [] = omega arith
up-short (c ∷ cs) =
    elim (eqb c 10) as (λ e. length (cond (not e) (c ∷ up_to_end cs) []) ≤ suc (length cs)) [
      | true ↦ omega arith
      | false ↦ let rest = up-short cs in omega (arith, rest)
    ]

pub ended : (a rest : List ℕ) (n len used : ℕ) (b : Bool) → n ≡ length (up_to_end a) → n < length a → b ≡ (ltb 0 n && eqb (get_or a (n - 1) 0) 13) → len ≡ cond b (n - 1) n → used ≡ n + 1 →
    IsLineOf a len used rest
ended a rest n len used b up less is is_len is_used =
    let up_all : n ≡ length (up_to_end (a ++ rest)) = up ∙ ap length (sym (up-append a rest (omega arith))) in
    let long : length (a ++ rest) ≡ length a + length rest = length-append a rest in
    let last : get_or (a ++ rest) (n - 1) 0 ≡ get_or a (n - 1) 0 = get_or_append_left a rest 0 (n - 1) (omega arith) in
    let is_all : b ≡ (ltb 0 n && eqb (get_or (a ++ rest) (n - 1) 0) 13) = is ∙ ap (λ v. ltb 0 n && eqb v 13) (sym last) in
    let first = ended_line (a ++ rest) n b up_all (omega (arith, long, less)) is_all in
    let small : len ≤ length a = small_len b is_len in
    let prefix : take (cond b (n - 1) n) (a ++ rest) ≡ take len a = ap (λ k. take k (a ++ rest)) (sym is_len) ∙ take-append-le len a rest small in
    let back : drop (n + 1) (a ++ rest) ≡ drop used a ++ rest = ap (λ k. drop k (a ++ rest)) (sym is_used) ∙ drop-append-le used a rest (omega (arith, is_used, less)) in
    record { lines = first ∙ (λ i. prefix i ∷ text_lines (back i)) }
  where
    small_len : (v : Bool) → len ≡ cond v (n - 1) n → len ≤ length a
    small_len true e = omega arith
    small_len false e = omega arith

pub last : (a : List ℕ) (n : ℕ) → 0 < length a → n ≡ length (up_to_end a) → n ≡ length a → IsLineOf a n n []
last a n some up all = record {
  lines = ap text_lines (append-nil a) ∙ whole_line a n some up all ∙ ap (λ t. take n a ∷ text_lines t) (sym (append-nil (drop n a)));
}

-- a text that begins with more bytes than a line of this bound may have, and no line feed among them
pub long_first : (a rest : List ℕ) (most : ℕ) → length (up_to_end a) ≡ length a → most + 1 < length a →
    (line : List ℕ) × (lines : List (List ℕ)) × (text_lines (a ++ rest) ≡ line ∷ lines) × (most < length line)
long_first a rest most none more =
    let s = a ++ rest in
    let n = length (up_to_end s) in
    let far : length a ≤ n = up-long a rest none in
    let within : n ≤ length s = up-short s in
    elim (cases_lt n (length s)) [
      | inl less ↦
          let b = ltb 0 n && eqb (get_or s (n - 1) 0) 13 in
          (take (cond b (n - 1) n) s, text_lines (drop (n + 1) s), ended_line s n b refl less refl, by_end b far within)
      | inr all ↦
          let same : n ≡ length s = omega (arith, all, within) in
          let some : 0 < length s = omega (arith, far, more, within) in
          (take n s, text_lines (drop n s), whole_line s n some refl same, by_end false far within)
    ]
  where
    by_end : (b : Bool) → length a ≤ length (up_to_end (a ++ rest)) → length (up_to_end (a ++ rest)) ≤ length (a ++ rest) →
        most < length (take (cond b (length (up_to_end (a ++ rest)) - 1) (length (up_to_end (a ++ rest)))) (a ++ rest))
    by_end true far within = rw length-take (omega (arith, far, within, more))
    by_end false far within = rw length-take (omega (arith, far, within, more))
