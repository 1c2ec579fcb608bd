-- What the runs have at a place.
use Rattle.std.proofs.Common.{◌≡◌, ℕ, ◌+◌, ◌-◌, ◌<◌, Bool, true, false, ◌&&◌, ◌||◌, eqb, ltb, leb, if◌then◌else◌, Option, Some, None, List, [], ◌∷◌, ◌++◌, length, suc, zero, refl, sym, ap, ◌∙◌, length-append, arith}
use Rattle.std.specs.List.{slice_get}
use Rattle.std.proofs.lemmas.Bool.Decides.{nat_tests}
use Rattle.kc_obj_module.specs.declared.parts.Content.{Content}
use Rattle.kc_obj_module.specs.Contents.{content_at}
use Rattle.kc_asm_section.specs.declared.puts.Put.{Put}
use Rattle.kc_asm_section.specs.Runs.{closed, joins, runs}

abbrev pub is_at : Put → ℕ → ℕ → Bool
is_at q piece offset = eqb q.piece piece && eqb q.offset offset

-- the byte that is put at a place
abbrev pub put_byte : List Put → ℕ → ℕ → Option ℕ
put_byte [] piece offset = None
put_byte (q ∷ qs) piece offset = if is_at q piece offset then Some q.byte else put_byte qs piece offset

-- the byte at a place of a run, or another one
abbrev run_byte : List ℕ → ℕ → ℕ → ℕ → ℕ → Option ℕ → Option ℕ
run_byte bytes p o piece offset other = if eqb p piece && leb o offset && ltb offset (o + length bytes) then slice_get bytes (offset - o) else other

get_left : (xs ys : List ℕ) (i : ℕ) → i < length xs → slice_get (xs ++ ys) i ≡ slice_get xs i
get_left [] ys i h = absurd (omega arith)
get_left (x ∷ xs) ys zero h = refl
get_left (x ∷ xs) ys (suc i) h = get_left xs ys i (omega arith)

get_last : (xs : List ℕ) (b i : ℕ) → i ≡ length xs → slice_get (xs ++ b ∷ []) i ≡ Some b
get_last [] b i h = rw h refl
get_last (x ∷ xs) b zero h = absurd (omega arith)
get_last (x ∷ xs) b (suc i) h = get_last xs b i (omega arith)

within_more : (p o n piece offset : ℕ) → (eqb p piece && leb o offset && ltb offset (o + (n + 1))) ≡ ((eqb p piece && leb o offset && ltb offset (o + n)) || (eqb p piece && eqb (o + n) offset))
within_more p o n piece offset = grind (arith, nat_tests)

within_one : (p o piece offset : ℕ) → (eqb p piece && leb o offset && ltb offset (o + 1)) ≡ (eqb p piece && eqb o offset)
within_one p o piece offset = grind (arith, nat_tests)

within_none : (p o piece offset : ℕ) → (eqb p piece && leb o offset && ltb offset (o + 0)) ≡ false
within_none p o piece offset = grind (arith, nat_tests)

inside : (p o n piece offset : ℕ) → (eqb p piece && leb o offset && ltb offset (o + n)) ≡ true → offset - o < n
inside p o n piece offset h = grind (arith, nat_tests)

behind : (p o n piece offset : ℕ) → (eqb p piece && eqb (o + n) offset) ≡ true → offset - o ≡ n
behind p o n piece offset h = grind (arith, nat_tests)

pick : (c t : Bool) (x y z other : Option ℕ) → (c ≡ true → x ≡ y) → (t ≡ true → x ≡ z) → (if c || t then x else other) ≡ (if c then y else (if t then z else other))
pick true t x y z other f g = f refl
pick false true x y z other f g = g refl
pick false false x y z other f g = refl

-- a run with one more byte
extended : (bytes : List ℕ) (b p o piece offset : ℕ) (other : Option ℕ)
    → run_byte (bytes ++ b ∷ []) p o piece offset other ≡ run_byte bytes p o piece offset (if eqb p piece && eqb (o + length bytes) offset then Some b else other)
extended bytes b p o piece offset other =
    rw (length-append bytes (b ∷ []), within_more p o (length bytes) piece offset)
    (pick (eqb p piece && leb o offset && ltb offset (o + length bytes)) (eqb p piece && eqb (o + length bytes) offset) (slice_get (bytes ++ b ∷ []) (offset - o)) (slice_get bytes (offset - o)) (Some b) other
    (λ h. get_left bytes (b ∷ []) (offset - o) (inside p o (length bytes) piece offset h))
    (λ h. get_last bytes b (offset - o) (behind p o (length bytes) piece offset h)))

-- a run of one byte
single_at : (t : Bool) (b n : ℕ) (other : Option ℕ) → (t ≡ true → n ≡ 0) → (if t then slice_get (b ∷ []) n else other) ≡ (if t then Some b else other)
single_at true b n other h = rw (h refl) refl
single_at false b n other h = refl

at_start : (p o piece offset : ℕ) → (eqb p piece && eqb o offset) ≡ true → offset - o ≡ 0
at_start p o piece offset h = grind (arith, nat_tests)

single : (b p o piece offset : ℕ) (other : Option ℕ) → run_byte (b ∷ []) p o piece offset other ≡ (if eqb p piece && eqb o offset then Some b else other)
single b p o piece offset other = rw (within_one p o piece offset) (single_at (eqb p piece && eqb o offset) b (offset - o) other (at_start p o piece offset))

-- a run of no byte
empty_run : (p o piece offset : ℕ) (other : Option ℕ) → run_byte [] p o piece offset other ≡ other
empty_run p o piece offset other = rw (within_none p o piece offset) refl

ended : (bytes : List ℕ) (p o piece offset : ℕ) → content_at (closed bytes p o) piece offset ≡ run_byte bytes p o piece offset None
unfolding content_at
ended [] p o piece offset = sym (empty_run p o piece offset None)
ended (b ∷ bs) p o piece offset = refl

after_closed : (bytes : List ℕ) (p o piece offset : ℕ) (rest : List Content) (other : Option ℕ) → content_at rest piece offset ≡ other → content_at (closed bytes p o ++ rest) piece offset ≡ run_byte bytes p o piece offset other
unfolding content_at
after_closed [] p o piece offset rest other h = h ∙ sym (empty_run p o piece offset other)
after_closed (b ∷ bs) p o piece offset rest other h = rw h refl

joined_place : (n p o q r : ℕ) → (ltb n 1024 && eqb p q && eqb (o + n) r) ≡ true → (p ≡ q) × (o + n ≡ r)
joined_place n p o q r h = (grind (arith, nat_tests), grind (arith, nat_tests))

pub content_is : (bytes : List ℕ) (p o : ℕ) (qs : List Put) (piece offset : ℕ) → content_at (runs bytes p o qs) piece offset ≡ run_byte bytes p o piece offset (put_byte qs piece offset)
unfolding runs
content_is bytes p o [] piece offset = ended bytes p o piece offset
content_is bytes p o (q ∷ qs) piece offset = step (joins bytes p o q) refl (content_is (bytes ++ q.byte ∷ []) p o qs piece offset) (content_is (q.byte ∷ []) q.piece q.offset qs piece offset)
  where
    step : (t : Bool) → joins bytes p o q ≡ t
        → content_at (runs (bytes ++ q.byte ∷ []) p o qs) piece offset ≡ run_byte (bytes ++ q.byte ∷ []) p o piece offset (put_byte qs piece offset)
        → content_at (runs (q.byte ∷ []) q.piece q.offset qs) piece offset ≡ run_byte (q.byte ∷ []) q.piece q.offset piece offset (put_byte qs piece offset)
        → content_at (if t then runs (bytes ++ q.byte ∷ []) p o qs else closed bytes p o ++ runs (q.byte ∷ []) q.piece q.offset qs) piece offset ≡ run_byte bytes p o piece offset (put_byte (q ∷ qs) piece offset)
    step true e more new =
        let place : (p ≡ q.piece) × (o + length bytes ≡ q.offset) = joined_place (length bytes) p o q.piece q.offset e in
        let first : p ≡ q.piece = place.0 in
        let second : o + length bytes ≡ q.offset = place.1 in
        let test : (eqb p piece && eqb (o + length bytes) offset) ≡ is_at q piece offset = (λ i. eqb (first i) piece && eqb (second i) offset) in
        more ∙ extended bytes q.byte p o piece offset (put_byte qs piece offset) ∙ ap (λ (b : Bool). run_byte bytes p o piece offset (if b then Some q.byte else put_byte qs piece offset)) test
    step false e more new =
        after_closed bytes p o piece offset (runs (q.byte ∷ []) q.piece q.offset qs) (put_byte (q ∷ qs) piece offset) (new ∙ single q.byte q.piece q.offset piece offset (put_byte qs piece offset))

-- the runs have what is put
pub contents_are : (qs : List Put) (piece offset : ℕ) → content_at (runs [] 0 0 qs) piece offset ≡ put_byte qs piece offset
contents_are qs piece offset = content_is [] 0 0 qs piece offset ∙ empty_run 0 0 piece offset (put_byte qs piece offset)
