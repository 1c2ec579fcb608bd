-- Notes that are read stand by rising address.
use Rattle.std.proofs.Common.{◌≡◌, ℕ, suc, ◌+◌, ◌<◌, ◌≤◌, Bool, true, false, cond, inl, inr, Option, Some, None, Result, Ok, Err, List, [], ◌∷◌, refl, sym, ap, subst, ◌∙◌, arith}
use Rattle.std.specs.Prelude.{◌==◌, nat_lt, nat_le, codes}
use Rattle.std.specs.List.{list_any, insert, prefix_len}
use Rattle.std.specs.Str.{bytes_eq}
use Rattle.std.proofs.lemmas.Bool.{cases_Bool, or_parts, ltb-true, ltb-false, eqb-false}
use Rattle.kc_base.specs.TextLines.{text_lines}
use Rattle.kc_addresses.specs.Lines.{goes_on, read_from}
use Rattle.kc_addresses.specs.Words.{words_in, before_comment}
use Rattle.kc_bound.specs.declared.notes.Moved.{Moved}
use Rattle.kc_bound.specs.Reading.{Reader, NotesRead, LoopRead, GoesRead, loop_of, goes_of, moved_of, end_of, put_in, with_new, with_loops, with_goes, with_words, with_ends, with_fields, with_words_of, with_line, no_notes, count_of_notes}
use Rattle.kc_bound.specs.Rising.{RiseBy, StandByAddress, NotesStandByAddress}
use Rattle.kc_bound.proofs.ReadingLemmas.{below, same, old-one}

-- ---- one more at its place

module _ {A : Type 0} (at : A → ℕ) where
  -- the first is above a number
  abbrev Above : ℕ → List A → Type 0
  Above n [] = Unit {0}
  Above n (b ∷ bs) = n < at b

  joined : (a : A) (bs : List A) → Above (at a) bs → RiseBy at bs → RiseBy at (a ∷ bs)
  joined a [] above rise = tt
  joined a (b ∷ bs) above rise = (above, rise)

  second : (a : A) (bs : List A) → RiseBy at (a ∷ bs) → Above (at a) bs
  second a [] rise = tt
  second a (b ∷ bs) rise = rise.0

  rest : (a : A) (bs : List A) → RiseBy at (a ∷ bs) → RiseBy at bs
  rest a [] rise = tt
  rest a (b ∷ bs) rise = rise.1

  put_first : (a x : A) (xs : List A) → nat_lt (at x) (at a) ≡ false → put_in at (x ∷ xs) a ≡ a ∷ x ∷ xs
  put_first a x xs first = ap (λ b. insert (x ∷ xs) (cond b (1 + prefix_len (below at a) xs) 0) a) first

  put_later : (a x : A) (xs : List A) → nat_lt (at x) (at a) ≡ true → put_in at (x ∷ xs) a ≡ x ∷ put_in at xs a
  put_later a x xs is =
      let k = prefix_len (below at a) xs in
      let more : 1 + k ≡ suc k = omega arith in
      ap (λ b. insert (x ∷ xs) (cond b (1 + k) 0) a) is ∙ ap (λ n. insert (x ∷ xs) n a) more

  put_above : (n : ℕ) (a : A) (xs : List A) → n < at a → Above n xs → Above n (put_in at xs a)
  put_above n a [] is above = is
  put_above n a (x ∷ xs) is above = elim (cases_Bool (nat_lt (at x) (at a))) [
    | inl later ↦ subst (Above n) (sym (put_later a x xs later)) above
    | inr first ↦ subst (Above n) (sym (put_first a x xs first)) is
  ]

  above_other : (m n : ℕ) → nat_lt m n ≡ false → (m == n) ≡ false → n < m
  above_other m n low other =
      let at_most : n ≤ m = ltb-false m n low in
      let apart : m ≡ n → ⊥ = eqb-false m n other in
      omega (arith, at_most, apart)

  put_rises : (a : A) (xs : List A) → RiseBy at xs → list_any (same at a) xs ≡ false → RiseBy at (put_in at xs a)
  put_rises a [] rise new = tt
  put_rises a (x ∷ xs) rise new =
      let parts = or_parts (at x == at a) (list_any (same at a) xs) new in
      elim (cases_Bool (nat_lt (at x) (at a))) [
        | inl later ↦
            let above = put_above (at x) a xs (ltb-true (at x) (at a) later) (second x xs rise) in
            subst (RiseBy at) (sym (put_later a x xs later)) (joined x (put_in at xs a) above (put_rises a xs (rest x xs rise) parts.1))
        | inr first ↦ subst (RiseBy at) (sym (put_first a x xs first)) (above_other (at x) (at a) first parts.0, rise)
      ]

  same_some : {B : Type 0} (x y : B) (o : Option B) → o ≡ Some x → o ≡ Some y → x ≡ y
  same_some x y o p q = cc

  not_none : {B : Type 0} (x : B) (o : Option B) → o ≡ None → o ≡ Some x → ⊥
  not_none x o p q = cc

  new_rises : (xs ys : List A) (o : Option A) → RiseBy at xs → with_new at xs o ≡ Some ys → RiseBy at ys
  new_rises xs ys None rise is = absurd cc
  new_rises xs ys (Some a) rise is = elim (cases_Bool (list_any (same at a) xs)) [
    | inl old ↦ absurd (not_none ys (with_new at xs (Some a)) (old-one at xs a old) is)
    | inr new ↦
        let put : with_new at xs (Some a) ≡ Some (put_in at xs a) = ap (λ b. cond b None (Some (put_in at xs a))) new in
        subst (RiseBy at) (same_some (put_in at xs a) ys (with_new at xs (Some a)) put is) (put_rises a xs rise new)
  ]

-- ---- one more note

inside : {B : Type 0} (x y : B) → Some x ≡ Some y → x ≡ y
inside x y e = cc

loops_stand : (notes all : NotesRead) (o : Option (List LoopRead)) → StandByAddress notes → ((ls : List LoopRead) → o ≡ Some ls → RiseBy (λ l. l.head) ls) →
    with_loops notes o ≡ Some all → StandByAddress all
loops_stand notes all None stand rise is = absurd cc
loops_stand notes all (Some ls) stand rise is =
    subst StandByAddress (inside (record notes { loops = ls }) all is) (record { loops = rise ls refl; goes = stand.goes; words = stand.words; ends = stand.ends })

goes_stand : (notes all : NotesRead) (o : Option (List GoesRead)) → StandByAddress notes → ((gs : List GoesRead) → o ≡ Some gs → RiseBy (λ g. g.jump) gs) →
    with_goes notes o ≡ Some all → StandByAddress all
goes_stand notes all None stand rise is = absurd cc
goes_stand notes all (Some gs) stand rise is =
    subst StandByAddress (inside (record notes { goes = gs }) all is) (record { loops = stand.loops; goes = rise gs refl; words = stand.words; ends = stand.ends })

words_stand : (notes all : NotesRead) (o : Option (List Moved)) → StandByAddress notes → ((ms : List Moved) → o ≡ Some ms → RiseBy (λ m. m.block) ms) →
    with_words notes o ≡ Some all → StandByAddress all
words_stand notes all None stand rise is = absurd cc
words_stand notes all (Some ms) stand rise is =
    subst StandByAddress (inside (record notes { words = ms }) all is) (record { loops = stand.loops; goes = stand.goes; words = rise ms refl; ends = stand.ends })

ends_stand : (notes all : NotesRead) (o : Option (List ℕ)) → StandByAddress notes → ((es : List ℕ) → o ≡ Some es → RiseBy (λ a. a) es) →
    with_ends notes o ≡ Some all → StandByAddress all
ends_stand notes all None stand rise is = absurd cc
ends_stand notes all (Some es) stand rise is =
    subst StandByAddress (inside (record notes { ends = es }) all is) (record { loops = stand.loops; goes = stand.goes; words = stand.words; ends = rise es refl })

either : {P : Type 0} (b : Bool) (x y : Option NotesRead) (all : NotesRead) → (x ≡ Some all → P) → (y ≡ Some all → P) → cond b x y ≡ Some all → P
either true x y all one other is = one is
either false x y all one other is = other is

fields_stand : (address : Reader) (notes all : NotesRead) (word : List ℕ) (fields : List (List ℕ)) → StandByAddress notes →
    with_fields address notes word fields ≡ Some all → StandByAddress all
fields_stand address notes all word fields stand is =
    let loops = with_new (λ l. l.head) notes.loops (loop_of address fields) in
    let goes = with_new (λ g. g.jump) notes.goes (goes_of address fields) in
    let words = with_new (λ m. m.block) notes.words (moved_of address fields) in
    let ends = with_new (λ a. a) notes.ends (end_of address fields) in
    either (bytes_eq word (codes "loop")) (with_loops notes loops) _ all
    (loops_stand notes all loops stand (λ ls e. new_rises (λ l. l.head) notes.loops ls (loop_of address fields) stand.loops e))
    (either (bytes_eq word (codes "goes")) (with_goes notes goes) _ all
    (goes_stand notes all goes stand (λ gs e. new_rises (λ g. g.jump) notes.goes gs (goes_of address fields) stand.goes e))
    (either (bytes_eq word (codes "words")) (with_words notes words) _ all
    (words_stand notes all words stand (λ ms e. new_rises (λ m. m.block) notes.words ms (moved_of address fields) stand.words e))
    (either (bytes_eq word (codes "ends")) (with_ends notes ends) None all
    (ends_stand notes all ends stand (λ es e. new_rises (λ a. a) notes.ends es (end_of address fields) stand.ends e))
    (λ none. absurd cc))))
    is

line_stands : (address : Reader) (notes all : NotesRead) (words : List (List ℕ)) → StandByAddress notes → with_words_of address notes words ≡ Some all → StandByAddress all
line_stands address notes all [] stand is = subst StandByAddress (inside notes all is) stand
line_stands address notes all (word ∷ fields) stand is =
    either (nat_le 4096 (count_of_notes notes)) None (with_fields address notes word fields) all (λ none. absurd cc) (fields_stand address notes all word fields stand) is

-- ---- all lines

step : {S : Type 0} (add : S → List ℕ → Option S) (number : ℕ) (s : S) (line : List ℕ) (lines : List (List ℕ)) →
    read_from add number s (line ∷ lines) ≡ goes_on number (λ t. read_from add (number + 1) t lines) (add s line)
unfolding read_from
step add number s line lines = refl

no_lines : {S : Type 0} (add : S → List ℕ → Option S) (number : ℕ) (s : S) → read_from add number s [] ≡ Ok s
unfolding read_from
no_lines add number s = refl

same_ok : {S : Type 0} (s t : S) (r : Result S ℕ) → r ≡ Ok s → r ≡ Ok t → s ≡ t
same_ok s t r p q = cc

not_both : {S : Type 0} (t : S) (number : ℕ) (r : Result S ℕ) → r ≡ Err number → r ≡ Ok t → ⊥
not_both t number r p q = cc

goes_on_keeps : {S : Type 0} (P : S → Type 0) (o : Option S) (number : ℕ) (rest : S → Result S ℕ) (t : S) → ((u : S) → o ≡ Some u → rest u ≡ Ok t → P t) →
    goes_on number rest o ≡ Ok t → P t
goes_on_keeps P None number rest t keeps is = absurd (not_both t number (goes_on number rest None) refl is)
goes_on_keeps P (Some u) number rest t keeps is = keeps u refl is

read_keeps : {S : Type 0} (P : S → Type 0) (add : S → List ℕ → Option S) → ((s : S) (line : List ℕ) (t : S) → P s → add s line ≡ Some t → P t) →
    (number : ℕ) (s t : S) (lines : List (List ℕ)) → P s → read_from add number s lines ≡ Ok t → P t
read_keeps P add keeps number s t [] p is = subst P (same_ok s t (read_from add number s []) (no_lines add number s) is) p
read_keeps P add keeps number s t (line ∷ lines) p is =
    goes_on_keeps P (add s line) number (λ u. read_from add (number + 1) u lines) t
    (λ u one more. read_keeps P add keeps (number + 1) u t lines (keeps s line u p one) more)
    (sym (step add number s line lines) ∙ is)

none_stand : StandByAddress no_notes
none_stand = record { loops = tt; goes = tt; words = tt; ends = tt }

pub notes_stand : NotesStandByAddress
notes_stand address text notes is =
    read_keeps StandByAddress (with_line address) (λ s line t stand one. line_stands address s t (words_in (before_comment line)) stand one) 1 no_notes notes (text_lines text) none_stand is
