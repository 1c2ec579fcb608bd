-- Statements by rising line: those of a line stand at the beginning, where none before it is left.
use Rattle.std.proofs.Common.{◌≡◌, ℕ, suc, ◌+◌, ◌<◌, ◌≤◌, Bool, true, false, not, ◌&&◌, ◌==◌, List, [], ◌∷◌, length, take, drop, refl, sym, ap, ◌∙◌, None, arith}
use Rattle.std.specs.Prelude.{nat_lt, if◌then◌else◌, slice_index_or}
use Rattle.std.specs.List.{filter, prefix_len}
use Rattle.std.specs.List.Sorted.{IsNonDecreasingBy, IsStableByKey, ties}
use Rattle.std.specs.Ordering.{is_lt, nat_cmp}
use Rattle.std.proofs.lemmas.Bool.Decides.{nat_tests}
use Rattle.std.specs.declared.cmp.Ordering.TheVariants.{Less, Equal, Greater}
use Rattle.kc_obj_module.specs.declared.parts.SegKind.TheVariants.{Code}
use Rattle.kc_asm_list.specs.declared.spot.Spot.{Spot}
use Rattle.kc_asm_list.specs.Order.{Rises}
use Rattle.kc_asm_list.specs.Rows.{is_on}

sooner : (from other : ℕ) (ss : List Spot) → other ≤ from → Rises from ss → Rises other ss
sooner from other [] le rises = tt
sooner from other (s ∷ ss) le rises = (omega (arith, le, rises.0), rises.1)

-- none is on a line before
none : (line from : ℕ) (ss : List Spot) → line < from → Rises from ss → filter (is_on line) ss ≡ []
none line from [] lt rises = refl
none line from (s ∷ ss) lt rises =
    let off : is_on line s ≡ false = grind (arith, nat_tests, lt, rises.0) in
    rw off (none line s.line ss (omega (arith, lt, rises.0)) rises.1)

pub prefix : (line : ℕ) (ss : List Spot) → Rises line ss → take (prefix_len (is_on line) ss) ss ≡ filter (is_on line) ss
prefix line [] rises = refl
prefix line (s ∷ ss) rises = by (prefix line ss (sooner s.line line ss rises.0 rises.1)) (is_on line s) refl
  where
    by : take (prefix_len (is_on line) ss) ss ≡ filter (is_on line) ss → (b : Bool) → is_on line s ≡ b → take (prefix_len (is_on line) (s ∷ ss)) (s ∷ ss) ≡ filter (is_on line) (s ∷ ss)
    by rest true is =
        let more : 1 + prefix_len (is_on line) ss ≡ suc (prefix_len (is_on line) ss) = omega arith in
        rw (is, more) (ap (λ t. s ∷ t) rest)
    by rest false is =
        let more : line < s.line = grind (arith, nat_tests, is, rises.0) in
        rw is (sym (none line s.line ss more rises.1))

pub later : (line : ℕ) (ss : List Spot) → Rises line ss → Rises (line + 1) (drop (prefix_len (is_on line) ss) ss)
later line [] rises = tt
later line (s ∷ ss) rises = by (later line ss (sooner s.line line ss rises.0 rises.1)) (is_on line s) refl
  where
    by : Rises (line + 1) (drop (prefix_len (is_on line) ss) ss) → (b : Bool) → is_on line s ≡ b → Rises (line + 1) (drop (prefix_len (is_on line) (s ∷ ss)) (s ∷ ss))
    by rest true is =
        let more : 1 + prefix_len (is_on line) ss ≡ suc (prefix_len (is_on line) ss) = omega arith in
        rw (is, more) rest
    by rest false is = rw is ((grind (arith, nat_tests, is, rises.0)), rises.1)

pub others : (line : ℕ) (ss : List Spot) (n : ℕ) → line < n → filter (is_on n) (drop (prefix_len (is_on line) ss) ss) ≡ filter (is_on n) ss
others line [] n lt = refl
others line (s ∷ ss) n lt = by (others line ss n lt) (is_on line s) refl
  where
    by : filter (is_on n) (drop (prefix_len (is_on line) ss) ss) ≡ filter (is_on n) ss → (b : Bool) → is_on line s ≡ b → filter (is_on n) (drop (prefix_len (is_on line) (s ∷ ss)) (s ∷ ss)) ≡ filter (is_on n) (s ∷ ss)
    by rest true is =
        let off : is_on n s ≡ false = grind (arith, nat_tests, lt, is) in
        let more : 1 + prefix_len (is_on line) ss ≡ suc (prefix_len (is_on line) ss) = omega arith in
        rw (is, off, more) rest
    by rest false is = rw is refl

-- ---- what a stable sort by lines gives

pub sorted_rises : (ss : List Spot) (from : ℕ) → IsNonDecreasingBy (λ s. s.line) ss → ((d : Spot) → 0 < length ss → from ≤ (slice_index_or ss 0 d).line) → Rises from ss
sorted_rises [] from up first = tt
sorted_rises (s ∷ ss) from up first =
    (first s (omega arith), sorted_rises ss s.line (λ i j d le lt. up (suc i) (suc j) d (omega (arith, le)) (omega (arith, lt))) (λ d lt. up 0 1 d (omega arith) (omega (arith, lt))))

abbrev on_line : ℕ → Spot
on_line line = record { line = line; depth = 0; labelled = true; kind = Code; piece = 0; at = None; before = 0; place = 0; after = 0 }

is_before : (x y : ℕ) → is_lt (nat_cmp x y) ≡ nat_lt x y
is_before x y = by (nat_lt x y) (x == y)
  where
    by : (b e : Bool) → is_lt (if b then Less else if e then Equal else Greater) ≡ b
    by true e = refl
    by false true = refl
    by false false = refl

tie : (line : ℕ) (s : Spot) → is_on line s ≡ ties (λ a b. is_lt (nat_cmp a.line b.line)) (on_line line) s
tie line s =
    let tests : is_on line s ≡ not (nat_lt line s.line) && not (nat_lt s.line line) = grind (arith, nat_tests) in
    tests ∙ (λ i. not (sym (is_before line s.line) i) && not (sym (is_before s.line line) i))

pub same : (xs ys : List Spot) → IsStableByKey (λ s. s.line) nat_cmp xs ys → (line : ℕ) → filter (is_on line) ys ≡ filter (is_on line) xs
same xs ys stable line = (λ i. filter (λ s. tie line s i) ys) ∙ (stable (on_line line) ∙ sym (λ i. filter (λ s. tie line s i) xs))
