-- The runs stand in order, and each within its piece.
use Rattle.std.proofs.Common.{◌≡◌, ℕ, ◌+◌, ◌<◌, ◌≤◌, Bool, true, false, ◌&&◌, ◌||◌, eqb, ltb, leb, if◌then◌else◌, List, [], ◌∷◌, ◌++◌, length, refl, length-append, arith}
use Rattle.std.specs.List.{slice_get, list_all}
use Rattle.std.proofs.lemmas.Bool.{and_parts}
use Rattle.std.proofs.lemmas.Bool.Decides.{nat_tests}
use Rattle.kc_obj_module.specs.declared.parts.Content.{Content}
use Rattle.kc_obj_module.specs.declared.parts.Segment.{Segment}
use Rattle.kc_obj_module.specs.Contents.{content_is_sound, content_follows, contents_in_order, leaves_place, is_from}
use Rattle.kc_obj_module.specs.Pieces.{has_code}
use Rattle.kc_asm_section.specs.declared.puts.Put.{Put}
use Rattle.kc_asm_section.specs.Runs.{content, closed, joins, runs}

-- from a place on, strictly rising
abbrev pub rises : ℕ → ℕ → List Put → Bool
rises piece offset [] = true
rises piece offset (q ∷ qs) = is_from piece offset q.piece q.offset && rises q.piece (q.offset + 1) qs

pub both : (a b : Bool) → a ≡ true → b ≡ true → (a && b) ≡ true
both a b p q = rw (p, q) refl

next_leaves : (n p o q r : ℕ) → n ≤ 1024 → (ltb p q || (eqb p q && leb (o + n) r)) ≡ true → (ltb n 1024 && eqb p q && eqb (o + n) r) ≡ false
    → (ltb p q || (eqb p q && (ltb (o + n) r || (eqb (o + n) r && eqb n 1024)))) ≡ true
next_leaves n p o q r le from not = grind (arith, nat_tests)

joined_place : (n p o q r : ℕ) → (ltb n 1024 && eqb p q && eqb (o + n) r) ≡ true → (p ≡ q) × (o + n ≡ r) × (n < 1024)
joined_place n p o q r h = (grind (arith, nat_tests), grind (arith, nat_tests), grind (arith, nat_tests))

longer : (b : ℕ) (bs : List ℕ) (x : ℕ) → length (b ∷ (bs ++ x ∷ [])) ≡ length (b ∷ bs) + 1
longer b bs x = omega (arith, length-append bs (x ∷ []))

rises_on : (p o q r : ℕ) (qs : List Put) → p ≡ q → o ≡ r → rises q r qs ≡ true → rises p o qs ≡ true
rises_on p o q r qs e f h = rw (e, f) h

module _ (q : Put) (qs : List Put) where
  order_step : (c : Content) (b : ℕ) (bs : List ℕ) (p o : ℕ) → length (b ∷ bs) ≤ 1024 → leaves_place c p o ≡ true → rises p (o + length (b ∷ bs)) (q ∷ qs) ≡ true
      → ((c : Content) (b : ℕ) (bs : List ℕ) (p o : ℕ) → length (b ∷ bs) ≤ 1024 → leaves_place c p o ≡ true → rises p (o + length (b ∷ bs)) qs ≡ true → contents_in_order (c ∷ runs (b ∷ bs) p o qs) ≡ true)
      → (t : Bool) → joins (b ∷ bs) p o q ≡ t
      → contents_in_order (c ∷ (if t then runs (b ∷ (bs ++ q.byte ∷ [])) p o qs else content p o (b ∷ bs) ∷ runs (q.byte ∷ []) q.piece q.offset qs)) ≡ true
  unfolding contents_in_order
  order_step c b bs p o le leaves rising more true e =
      let parts = and_parts (is_from p (o + length (b ∷ bs)) q.piece q.offset) (rises q.piece (q.offset + 1) qs) rising in
      let place : (p ≡ q.piece) × (o + length (b ∷ bs) ≡ q.offset) × (length (b ∷ bs) < 1024) = joined_place (length (b ∷ bs)) p o q.piece q.offset e in
      let grown : length (b ∷ (bs ++ q.byte ∷ [])) ≡ length (b ∷ bs) + 1 = longer b bs q.byte in
      let same : o + length (b ∷ (bs ++ q.byte ∷ [])) ≡ q.offset + 1 = omega (arith, grown, place.1) in
      more c b (bs ++ q.byte ∷ []) p o (omega (arith, grown, place.2)) leaves (rises_on p (o + length (b ∷ (bs ++ q.byte ∷ []))) q.piece (q.offset + 1) qs place.0 same parts.1)
  order_step c b bs p o le leaves rising more false e =
      let parts = and_parts (is_from p (o + length (b ∷ bs)) q.piece q.offset) (rises q.piece (q.offset + 1) qs) rising in
      both (content_follows c (content p o (b ∷ bs))) (contents_in_order (content p o (b ∷ bs) ∷ runs (q.byte ∷ []) q.piece q.offset qs)) leaves
      (more (content p o (b ∷ bs)) q.byte [] q.piece q.offset (omega arith) (next_leaves (length (b ∷ bs)) p o q.piece q.offset le parts.0 e) parts.1)

order_after : (qs : List Put) (c : Content) (b : ℕ) (bs : List ℕ) (p o : ℕ) → length (b ∷ bs) ≤ 1024 → leaves_place c p o ≡ true → rises p (o + length (b ∷ bs)) qs ≡ true → contents_in_order (c ∷ runs (b ∷ bs) p o qs) ≡ true
unfolding runs contents_in_order
order_after [] c b bs p o le leaves rising = both (content_follows c (content p o (b ∷ bs))) true leaves refl
order_after (q ∷ qs) c b bs p o le leaves rising = order_step q qs c b bs p o le leaves rising (order_after qs) (joins (b ∷ bs) p o q) refl

module _ (q : Put) (qs : List Put) where
  first_step : (b : ℕ) (bs : List ℕ) (p o : ℕ) → length (b ∷ bs) ≤ 1024 → rises p (o + length (b ∷ bs)) (q ∷ qs) ≡ true
      → ((b : ℕ) (bs : List ℕ) (p o : ℕ) → length (b ∷ bs) ≤ 1024 → rises p (o + length (b ∷ bs)) qs ≡ true → contents_in_order (runs (b ∷ bs) p o qs) ≡ true)
      → (t : Bool) → joins (b ∷ bs) p o q ≡ t
      → contents_in_order (if t then runs (b ∷ (bs ++ q.byte ∷ [])) p o qs else content p o (b ∷ bs) ∷ runs (q.byte ∷ []) q.piece q.offset qs) ≡ true
  first_step b bs p o le rising more true e =
      let parts = and_parts (is_from p (o + length (b ∷ bs)) q.piece q.offset) (rises q.piece (q.offset + 1) qs) rising in
      let place : (p ≡ q.piece) × (o + length (b ∷ bs) ≡ q.offset) × (length (b ∷ bs) < 1024) = joined_place (length (b ∷ bs)) p o q.piece q.offset e in
      let grown : length (b ∷ (bs ++ q.byte ∷ [])) ≡ length (b ∷ bs) + 1 = longer b bs q.byte in
      let same : o + length (b ∷ (bs ++ q.byte ∷ [])) ≡ q.offset + 1 = omega (arith, grown, place.1) in
      more b (bs ++ q.byte ∷ []) p o (omega (arith, grown, place.2)) (rises_on p (o + length (b ∷ (bs ++ q.byte ∷ []))) q.piece (q.offset + 1) qs place.0 same parts.1)
  first_step b bs p o le rising more false e =
      let parts = and_parts (is_from p (o + length (b ∷ bs)) q.piece q.offset) (rises q.piece (q.offset + 1) qs) rising in
      order_after qs (content p o (b ∷ bs)) q.byte [] q.piece q.offset (omega arith) (next_leaves (length (b ∷ bs)) p o q.piece q.offset le parts.0 e) parts.1

order_of : (qs : List Put) (b : ℕ) (bs : List ℕ) (p o : ℕ) → length (b ∷ bs) ≤ 1024 → rises p (o + length (b ∷ bs)) qs ≡ true → contents_in_order (runs (b ∷ bs) p o qs) ≡ true
unfolding runs contents_in_order
order_of [] b bs p o le rising = refl
order_of (q ∷ qs) b bs p o le rising = first_step q qs b bs p o le rising (order_of qs) (joins (b ∷ bs) p o q) refl

pub runs_in_order : (qs : List Put) → rises 0 0 qs ≡ true → contents_in_order (runs [] 0 0 qs) ≡ true
unfolding runs contents_in_order
runs_in_order [] h = refl
runs_in_order (q ∷ qs) h =
    let parts = and_parts (is_from 0 0 q.piece q.offset) (rises q.piece (q.offset + 1) qs) h in
    step (joins [] 0 0 q) refl parts.1
  where
    step : (t : Bool) → joins [] 0 0 q ≡ t → rises q.piece (q.offset + 1) qs ≡ true → contents_in_order (if t then runs (q.byte ∷ []) 0 0 qs else runs (q.byte ∷ []) q.piece q.offset qs) ≡ true
    step true e rising =
        let place : (0 ≡ q.piece) × (0 + 0 ≡ q.offset) × (0 < 1024) = joined_place 0 0 0 q.piece q.offset e in
        let offset : 0 + 1 ≡ q.offset + 1 = omega (arith, place.1) in
        order_of qs q.byte [] 0 0 (omega arith) (rises_on 0 (0 + 1) q.piece (q.offset + 1) qs place.0 offset rising)
    step false e rising = order_of qs q.byte [] q.piece q.offset (omega arith) rising

-- ---- within their pieces

abbrev pub put_in_code : List Segment → Put → Bool
put_in_code segments q = has_code (slice_get segments q.piece) (q.offset + 1)

closed_sound : (segments : List Segment) (bytes : List ℕ) (p o : ℕ) → length bytes ≤ 1024 → (0 < length bytes → has_code (slice_get segments p) (o + length bytes) ≡ true) → list_all (content_is_sound segments) (closed bytes p o) ≡ true
closed_sound segments [] p o le has = refl
closed_sound segments (b ∷ bs) p o le has =
    let positive : ltb 0 (length (b ∷ bs)) ≡ true = grind (arith, nat_tests) in
    let short : leb (length (b ∷ bs)) 1024 ≡ true = grind (arith, nat_tests) in
    rw (positive, short, has (omega arith)) refl

then_sound : (segments : List Segment) (bytes : List ℕ) (p o : ℕ) (rest : List Content) → length bytes ≤ 1024 → (0 < length bytes → has_code (slice_get segments p) (o + length bytes) ≡ true) → list_all (content_is_sound segments) rest ≡ true → list_all (content_is_sound segments) (closed bytes p o ++ rest) ≡ true
then_sound segments [] p o rest le has h = h
then_sound segments (b ∷ bs) p o rest le has h =
    let positive : ltb 0 (length (b ∷ bs)) ≡ true = grind (arith, nat_tests) in
    let short : leb (length (b ∷ bs)) 1024 ≡ true = grind (arith, nat_tests) in
    rw (positive, short, has (omega arith), h) refl

pub runs_sound : (segments : List Segment) (qs : List Put) (bytes : List ℕ) (p o : ℕ) → length bytes ≤ 1024 → (0 < length bytes → has_code (slice_get segments p) (o + length bytes) ≡ true)
    → list_all (put_in_code segments) qs ≡ true → list_all (content_is_sound segments) (runs bytes p o qs) ≡ true
unfolding runs
runs_sound segments [] bytes p o le has all = closed_sound segments bytes p o le has
runs_sound segments (q ∷ qs) bytes p o le has all =
    let parts = and_parts (put_in_code segments q) (list_all (put_in_code segments) qs) all in
    step (joins bytes p o q) refl parts.0 (λ n h. runs_sound segments qs (bytes ++ q.byte ∷ []) p o n h parts.1) (λ n h. runs_sound segments qs (q.byte ∷ []) q.piece q.offset n h parts.1)
  where
    step : (t : Bool) → joins bytes p o q ≡ t → put_in_code segments q ≡ true
        → (length (bytes ++ q.byte ∷ []) ≤ 1024 → (0 < length (bytes ++ q.byte ∷ []) → has_code (slice_get segments p) (o + length (bytes ++ q.byte ∷ [])) ≡ true) → list_all (content_is_sound segments) (runs (bytes ++ q.byte ∷ []) p o qs) ≡ true)
        → (length (q.byte ∷ []) ≤ 1024 → (0 < length (q.byte ∷ []) → has_code (slice_get segments q.piece) (q.offset + length (q.byte ∷ [])) ≡ true) → list_all (content_is_sound segments) (runs (q.byte ∷ []) q.piece q.offset qs) ≡ true)
        → list_all (content_is_sound segments) (if t then runs (bytes ++ q.byte ∷ []) p o qs else closed bytes p o ++ runs (q.byte ∷ []) q.piece q.offset qs) ≡ true
    step true e here more new =
        let place : (p ≡ q.piece) × (o + length bytes ≡ q.offset) × (length bytes < 1024) = joined_place (length bytes) p o q.piece q.offset e in
        let grown : length (bytes ++ q.byte ∷ []) ≡ length bytes + 1 = length-append bytes (q.byte ∷ []) in
        let end : o + length (bytes ++ q.byte ∷ []) ≡ q.offset + 1 = omega (arith, grown, place.1) in
        more (omega (arith, grown, place.2)) (λ _. rw (place.0, end) here)
    step false e here more new = then_sound segments bytes p o (runs (q.byte ∷ []) q.piece q.offset qs) le has (new (omega arith) (λ _. here))
