-- Notes as they are read, with lists for vectors.
use Rattle.std.proofs.Common.{◌≡◌, ℕ, ◌+◌, Bool, true, false, cond, ◌||◌, Option, Some, None, List, [], ◌∷◌, ◌++◌, length, map, take, drop, refl, sym, ap, ◌∙◌, arith}
use Rattle.std.specs.Prelude.{◌==◌, nat_lt}
use Rattle.std.specs.List.{list_any, insert, prefix_len, take_while}
use Rattle.std.specs.Option.{option_map}
use Rattle.std.proofs.lemmas.List.{take-map, drop-map, map-append, append-nil, append_assoc}
use Rattle.std.proofs.lemmas.List.Sums.{take_while-cons}
use Rattle.kc_addresses.specs.Lines.{IsAdded}
use Rattle.kc_bound.specs.Reading.{Reader, NotesRead, LoopRead, GoesRead, in_front, addresses_of, put_in, with_new, with_loops, with_goes, with_words, with_ends}
use Rattle.kc_bound.specs.declared.notes.Moved.{Moved}

-- ---- lists

pub list_any-map : {A B : Type 0} (f : A → B) (p : B → Bool) (xs : List A) → list_any p (map f xs) ≡ list_any (λ x. p (f x)) xs
list_any-map f p [] = refl
list_any-map f p (x ∷ xs) = ap (λ b. p (f x) || b) (list_any-map f p xs)

pub prefix_len-map : {A B : Type 0} (f : A → B) (p : B → Bool) (xs : List A) → prefix_len p (map f xs) ≡ prefix_len (λ x. p (f x)) xs
prefix_len-map f p [] = refl
prefix_len-map f p (x ∷ xs) = ap (λ n. cond (p (f x)) (1 + n) 0) (prefix_len-map f p xs)

pub insert-map : {A B : Type 0} (f : A → B) (xs : List A) (n : ℕ) (x : A) → map f (insert xs n x) ≡ insert (map f xs) n (f x)
insert-map f xs n x =
    map-append f (take n xs) (x ∷ drop n xs)
    ∙ ap (λ before. before ++ f x ∷ map f (drop n xs)) (sym (take-map f n xs))
    ∙ ap (λ behind. take n (map f xs) ++ f x ∷ behind) (sym (drop-map f n xs))

pub length-take_while : {A : Type 0} (p : A → Bool) (xs : List A) → length (take_while p xs) ≡ prefix_len p xs
length-take_while p [] = refl
length-take_while p (x ∷ xs) = ap length (take_while-cons p x xs) ∙ elim (p x) as (λ b. length (cond b (x ∷ take_while p xs) []) ≡ cond b (1 + prefix_len p xs) 0) [
  | true ↦ let rest : length (take_while p xs) ≡ prefix_len p xs = length-take_while p xs in omega arith
  | false ↦ refl
]

-- ---- one more at the place of its address, where it is new

abbrev pub below : {A : Type 0} → (A → ℕ) → A → A → Bool
below at a b = nat_lt (at b) (at a)

abbrev pub same : {A : Type 0} → (A → ℕ) → A → A → Bool
same at a b = at b == at a

pub new-one : {A : Type 0} (at : A → ℕ) (xs : List A) (a : A) (n : ℕ) → n ≡ length (take_while (below at a) xs) → list_any (same at a) xs ≡ false →
    with_new at xs (Some a) ≡ Some (insert xs n a)
new-one at xs a n index new =
    ap (λ b. cond b None (Some (put_in at xs a))) new ∙ ap (λ k. Some (insert xs k a)) (sym (length-take_while (below at a) xs) ∙ sym index)

pub old-one : {A : Type 0} (at : A → ℕ) (xs : List A) (a : A) → list_any (same at a) xs ≡ true → with_new at xs (Some a) ≡ None
old-one at xs a old = ap (λ b. cond b None (Some (put_in at xs a))) old

-- the same, where what is noted is a part of what is kept
pub new-read : {A B : Type 0} (f : A → B) (at : B → ℕ) (xs : List A) (a : A) (n : ℕ) → n ≡ length (take_while (λ b. nat_lt (at (f b)) (at (f a))) xs) →
    list_any (λ b. at (f b) == at (f a)) xs ≡ false → with_new at (map f xs) (Some (f a)) ≡ Some (map f (insert xs n a))
new-read f at xs a n index new =
    new-one at (map f xs) (f a) n
    (index ∙ length-take_while (λ b. nat_lt (at (f b)) (at (f a))) xs ∙ sym (prefix_len-map f (below at (f a)) xs) ∙ sym (length-take_while (below at (f a)) (map f xs)))
    (list_any-map f (same at (f a)) xs ∙ new)
    ∙ ap (λ ys. Some ys) (sym (insert-map f xs n a))

pub old-read : {A B : Type 0} (f : A → B) (at : B → ℕ) (xs : List A) (a : A) → list_any (λ b. at (f b) == at (f a)) xs ≡ true → with_new at (map f xs) (Some (f a)) ≡ None
old-read f at xs a old = old-one at (map f xs) (f a) (list_any-map f (same at (f a)) xs ∙ old)

-- ---- addresses, one word after the other

abbrev pub behind : List ℕ → Option (List ℕ) → Option (List ℕ)
behind before more = option_map (λ found. before ++ found) more

pushed : (before : List ℕ) (a : ℕ) (more : Option (List ℕ)) → behind before (in_front (Some a) more) ≡ behind (before ++ a ∷ []) more
pushed before a None = refl
pushed before a (Some more) = ap (λ found. Some found) (sym (append_assoc before (a ∷ []) more))

pub one-address : (address : Reader) (before : List ℕ) (a : ℕ) (all words : List (List ℕ)) (word : List ℕ) → all ≡ word ∷ words → address word ≡ Some a →
    behind before (addresses_of address all) ≡ behind (before ++ a ∷ []) (addresses_of address words)
one-address address before a all words word split is =
    ap (λ ws. behind before (addresses_of address ws)) split
    ∙ ap (λ o. behind before (in_front o (addresses_of address words))) is ∙ pushed before a (addresses_of address words)

pub no-address : (address : Reader) (before : List ℕ) (all words : List (List ℕ)) (word : List ℕ) → all ≡ word ∷ words → address word ≡ None →
    behind before (addresses_of address all) ≡ None
no-address address before all words word split is =
    ap (λ ws. behind before (addresses_of address ws)) split ∙ ap (λ o. behind before (in_front o (addresses_of address words))) is

pub no-words : (address : Reader) (before : List ℕ) (all : List (List ℕ)) → all ≡ [] → behind before (addresses_of address all) ≡ Some before
no-words address before all none = ap (λ ws. behind before (addresses_of address ws)) none ∙ ap (λ found. Some found) (append-nil before)

-- ---- one more note of a kind

pub added_loops : (b : Bool) (notes : NotesRead) (with_one : Option (List LoopRead)) (loops : List LoopRead) →
    IsAdded b with_one loops → IsAdded b (with_loops notes with_one) (record notes { loops = loops })
added_loops true notes with_one loops is = ap (with_loops notes) is
added_loops false notes with_one loops is = ap (with_loops notes) is

pub added_goes : (b : Bool) (notes : NotesRead) (with_one : Option (List GoesRead)) (goes : List GoesRead) →
    IsAdded b with_one goes → IsAdded b (with_goes notes with_one) (record notes { goes = goes })
added_goes true notes with_one goes is = ap (with_goes notes) is
added_goes false notes with_one goes is = ap (with_goes notes) is

pub added_words : (b : Bool) (notes : NotesRead) (with_one : Option (List Moved)) (words : List Moved) →
    IsAdded b with_one words → IsAdded b (with_words notes with_one) (record notes { words = words })
added_words true notes with_one words is = ap (with_words notes) is
added_words false notes with_one words is = ap (with_words notes) is

pub added_ends : (b : Bool) (notes : NotesRead) (with_one : Option (List ℕ)) (ends : List ℕ) →
    IsAdded b with_one ends → IsAdded b (with_ends notes with_one) (record notes { ends = ends })
added_ends true notes with_one ends is = ap (with_ends notes) is
added_ends false notes with_one ends is = ap (with_ends notes) is
