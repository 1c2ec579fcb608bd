-- What it means that a table has a row at an address.
use Rattle.std.proofs.Common.{◌≡◌, ℕ, ◌+◌, ◌-◌, ◌%◌, ◌==◌, Bool, true, false, ◌&&◌, ◌||◌, refl, sym, ap, subst, arith, inl, inr, Option, Some, None, List, [], ◌∷◌}
use Rattle.std.specs.Prelude.{is_some, not}
use Rattle.std.specs.List.{All, AllByRecursion, Contains, list_all}
use Rattle.std.proofs.lemmas.Bool.{cases_Bool, false≢true, eq-eqb, eqb-true, eqb-false}
use Rattle.std.proofs.lemmas.List.Elements.{All-nil, All-cons, All-from_recursion, All-contains, Contains-append_left, Contains-append_right, Contains-push}
use Rattle.kc_block_spec.specs.Registers.{row_at, is_half}
use Rattle.kc_block_spec.specs.RegisterLaws.{Names, NamesHalf}

both_true : (a b : Bool) → (a && b) ≡ true → (a ≡ true) × (b ≡ true)
both_true true b h = (refl, h)
both_true false b h = absurd (false≢true h)

-- a row that is found is in the table
pub row_found : {R : Type 0} (rows : List (ℕ × R)) (addr : ℕ) (r : R) → row_at rows addr ≡ Some r → Contains rows (addr, r)
row_found [] addr r e = cc
row_found {R = R} (row ∷ rows) addr r e = elim (cases_Bool (addr == row.0)) [
  | inl here ↦
      let at : row.0 ≡ addr = sym (eqb-true addr row.0 here) in
      let first : ◌≡◌ {A = Option R} (Some row.1) (Some r) = rw here at e in
      let same : row.1 ≡ r = cc in
      let pair : ◌≡◌ {A = ℕ × R} row (addr, r) = λ j. (at j, same j) in
      subst (Contains (row ∷ rows)) pair (Contains-append_left (row ∷ []) rows row (Contains-push [] row))
  | inr other ↦
      let rest : row_at rows addr ≡ Some r = rw other at e in
      Contains-append_right (row ∷ []) rows (addr, r) (row_found rows addr r rest)
]

-- none has the address where none is found
others : {R : Type 0} (rows : List (ℕ × R)) (addr : ℕ) → row_at rows addr ≡ None → All (λ row. addr ≡ row.0 → ⊥) rows
others [] addr e = All-nil _
others {R = R} (row ∷ rows) addr e = elim (cases_Bool (addr == row.0)) [
  | inl here ↦
      let first : ◌≡◌ {A = Option R} (Some row.1) None = rw here at e in
      cc
  | inr other ↦
      let rest : row_at rows addr ≡ None = rw other at e in
      All-cons (λ row. addr ≡ row.0 → ⊥) row rows (eqb-false addr row.0 other) (others rows addr rest)
]

pub row_none : {R : Type 0} (rows : List (ℕ × R)) (addr : ℕ) → row_at rows addr ≡ None → Names rows addr → ⊥
row_none rows addr e named = All-contains (λ row. addr ≡ row.0 → ⊥) rows (addr, named.0) (others rows addr e) named.1 refl

pub none_row : {R : Type 0} (rows : List (ℕ × R)) (addr : ℕ) → (Names rows addr → ⊥) → row_at rows addr ≡ None
none_row {R = R} rows addr none = by (row_at rows addr) refl
  where
    by : (row : Option R) → row_at rows addr ≡ row → row_at rows addr ≡ None
    by None e = e
    by (Some r) e = absurd (none (r, row_found rows addr r e))

-- what holds of each row holds of the one that is found
pub row_law : {R : Type 0} (P : ℕ → R → Type 0) (rows : List (ℕ × R)) (addr : ℕ) (r : R) → All (λ row. P row.0 row.1) rows → row_at rows addr ≡ Some r → P addr r
row_law P rows addr r all e = All-contains (λ row. P row.0 row.1) rows (addr, r) all (row_found rows addr r e)

-- word registers stand at even addresses
abbrev pub AreEven : {R : Type 0} → List (ℕ × R) → Type 0
AreEven words = All (λ row. row.0 % 2 ≡ 0) words

-- what a test of a table says of each row
all_true : {A : Type 0} (test : A → Bool) (P : A → Type 0) (rows : List A) → list_all test rows ≡ true → ((row : A) → test row ≡ true → P row) → AllByRecursion P rows
all_true test P [] h says = tt
all_true test P (row ∷ rows) h says = let both = both_true (test row) (list_all test rows) h in (says row both.0, all_true test P rows both.1 says)

pub all_when : {A : Type 0} (when test : A → Bool) (P : A → Type 0) (rows : List A) → list_all (λ row. not (when row) || test row) rows ≡ true → ((row : A) → test row ≡ true → P row) →
    All (λ row. when row ≡ true → P row) rows
all_when when test P rows h says =
    All-from_recursion (λ row. when row ≡ true → P row) rows (all_true (λ row. not (when row) || test row) (λ row. when row ≡ true → P row) rows h (λ row either is. says row (by (when row) (test row) is either)))
  where
    by : (a b : Bool) → a ≡ true → (not a || b) ≡ true → b ≡ true
    by true b is either = either
    by false b is either = absurd (false≢true is)

pub all_even : {R : Type 0} (words : List (ℕ × R)) → list_all (λ row. row.0 % 2 == 0) words ≡ true → AreEven words
all_even words h = All-from_recursion (λ row. row.0 % 2 ≡ 0) words (all_true (λ row. row.0 % 2 == 0) (λ row. row.0 % 2 ≡ 0) words h (λ row even. eqb-true (row.0 % 2) 0 even))

-- where no two rows have the same address, each is found at its own
abbrev pub stand_apart : {R : Type 0} → List (ℕ × R) → Bool
stand_apart [] = true
stand_apart (row ∷ rows) = list_all (λ other. not (other.0 == row.0)) rows && stand_apart rows

abbrev IsFoundIn : {R : Type 0} → List (ℕ × R) → ℕ × R → Type 0
IsFoundIn rows row = row_at rows row.0 ≡ Some row.1

found_behind : {R : Type 0} (row : ℕ × R) (rows some : List (ℕ × R)) → list_all (λ other. not (other.0 == row.0)) some ≡ true → AllByRecursion (IsFoundIn rows) some →
    AllByRecursion (IsFoundIn (row ∷ rows)) some
found_behind row rows [] h found = tt
found_behind {R = R} row rows (other ∷ some) h found =
    let both = both_true (not (other.0 == row.0)) (list_all (λ other. not (other.0 == row.0)) some) h in
    (by (other.0 == row.0) refl both.0 found.0, found_behind row rows some both.1 found.1)
  where
    by : (same : Bool) → (other.0 == row.0) ≡ same → not same ≡ true → row_at rows other.0 ≡ Some other.1 → row_at (row ∷ rows) other.0 ≡ Some other.1
    by true e differ found = absurd (false≢true differ)
    by false e differ found = rw e found

all_found : {R : Type 0} (rows : List (ℕ × R)) → stand_apart rows ≡ true → AllByRecursion (IsFoundIn rows) rows
all_found [] h = tt
all_found (row ∷ rows) h =
    let both = both_true (list_all (λ other. not (other.0 == row.0)) rows) (stand_apart rows) h in
    (rw (eq-eqb row.0 row.0 refl) refl, found_behind row rows rows both.0 (all_found rows both.1))

pub each_found : {R : Type 0} (P : ℕ → R → Type 0) (rows : List (ℕ × R)) → stand_apart rows ≡ true → ((addr : ℕ) (r : R) → row_at rows addr ≡ Some r → P addr r) → All (λ row. P row.0 row.1) rows
each_found {R = R} P rows h says = All-from_recursion (λ row. P row.0 row.1) rows (by rows (all_found rows h))
  where
    by : (some : List (ℕ × R)) → AllByRecursion (IsFoundIn rows) some → AllByRecursion (λ row. P row.0 row.1) some
    by [] found = tt
    by (row ∷ some) found = (says row.0 row.1 found.0, by some found.1)

named_even : {R : Type 0} (words : List (ℕ × R)) (addr : ℕ) → AreEven words → Names words addr → addr % 2 ≡ 0
named_even words addr even named = All-contains (λ row. row.0 % 2 ≡ 0) words (addr, named.0) even named.1

named_some : {R : Type 0} (words : List (ℕ × R)) (addr : ℕ) → Names words addr → is_some (row_at words addr) ≡ true
named_some {R = R} words addr named = by (row_at words addr) refl
  where
    by : (row : Option R) → row_at words addr ≡ row → is_some row ≡ true
    by None e = absurd (row_none words addr e named)
    by (Some r) e = refl

pub half_found : {R : Type 0} (words : List (ℕ × R)) (addr : ℕ) → AreEven words → NamesHalf words addr → is_half words addr ≡ true
half_found words addr even (inl here) =
    let low : addr % 2 ≡ 0 = named_even words addr even here in
    let at : addr - addr % 2 ≡ addr = omega arith in
    rw at (named_some words addr here)
half_found words addr even (inr (low, next, there)) =
    let first : low % 2 ≡ 0 = named_even words low even there in
    let at : addr - addr % 2 ≡ low = omega arith in
    rw at (named_some words low there)

pub half_none : {R : Type 0} (words : List (ℕ × R)) (addr : ℕ) → (NamesHalf words addr → ⊥) → is_half words addr ≡ false
half_none {R = R} words addr none = ap is_some (none_row words (addr - addr % 2) not_named)
  where
    not_named : Names words (addr - addr % 2) → ⊥
    not_named named = elim (cases_Bool (addr % 2 == 0)) [
      | inl even ↦
          let low : addr % 2 ≡ 0 = eqb-true (addr % 2) 0 even in
          let at : addr - addr % 2 ≡ addr = omega arith in
          none (inl (subst (Names words) at named))
      | inr odd ↦
          let high : addr % 2 ≡ 0 → ⊥ = eqb-false (addr % 2) 0 odd in
          let at : addr ≡ (addr - addr % 2) + 1 = omega (arith, high) in
          none (inr (addr - addr % 2, at, named))
    ]
