-- Contents that keep the rules are given by their bytes.
use Rattle.std.proofs.Common.{◌≡◌, ℕ, ◌+◌, ◌-◌, ◌<◌, ◌≤◌, Bool, true, false, ◌&&◌, ◌||◌, eqb, ltb, leb, Some, None, List, [], ◌∷◌, length, suc, zero, refl, sym, subst, ◌∙◌, arith}
use Rattle.std.specs.List.{slice_get, list_all}
use Rattle.std.proofs.lemmas.Bool.{and_parts}
use Rattle.std.proofs.lemmas.Bool.Decides.{nat_tests}
use Rattle.kc_obj_module.specs.declared.parts.Content.{Content}
use Rattle.kc_obj_module.specs.declared.parts.Segment.{Segment}
use Rattle.kc_obj_module.specs.Contents.{content_end, content_is_sound, content_follows, contents_in_order, covers, content_at, is_from}
use Rattle.kc_obj_module.specs.Pieces.{has_code}
use Rattle.kc_obj_module.proofs.ContentLemmas.{ordered_rest}

-- the first run, if there is one, stands at a place or after it
abbrev start_from : ℕ → ℕ → List Content → Bool
start_from piece offset [] = true
start_from piece offset (c ∷ cs) = is_from piece offset c.piece c.offset

from_leaving : (p e q r : ℕ) (full : Bool) → (ltb p q || (eqb p q && (ltb e r || (eqb e r && full)))) ≡ true → (ltb p q || (eqb p q && leb e r)) ≡ true
from_leaving p e q r true h = grind (arith, nat_tests)
from_leaving p e q r false h = grind (arith, nat_tests)

after_leaving : (p e q r n : ℕ) → n < 1024 → (ltb p q || (eqb p q && (ltb e r || (eqb e r && eqb n 1024)))) ≡ true → (ltb p q || (eqb p q && leb (e + 1) r)) ≡ true
after_leaving p e q r n lt h = grind (arith, nat_tests)

rest_from : (c : Content) (cs : List Content) → contents_in_order (c ∷ cs) ≡ true → start_from c.piece (content_end c) cs ≡ true
unfolding contents_in_order
rest_from c [] h = refl
rest_from c (d ∷ cs) h = from_leaving c.piece (content_end c) d.piece d.offset (eqb (length c.bytes) 1024) (and_parts (content_follows c d) (contents_in_order (d ∷ cs)) h).0

rest_after : (c : Content) (cs : List Content) → length c.bytes < 1024 → contents_in_order (c ∷ cs) ≡ true → start_from c.piece (content_end c + 1) cs ≡ true
unfolding contents_in_order
rest_after c [] lt h = refl
rest_after c (d ∷ cs) lt h = after_leaving c.piece (content_end c) d.piece d.offset (length c.bytes) lt (and_parts (content_follows c d) (contents_in_order (d ∷ cs)) h).0

-- ---- nothing stands before the first run

before_first : (a b q r n p o : ℕ) → is_from a b q r ≡ true → is_from a b p o ≡ false → (eqb q p && leb r o && ltb o (r + n)) ≡ false
before_first a b q r n p o h k = grind (arith, nat_tests)

before_rest : (a b q r e p o : ℕ) → is_from a b q r ≡ true → r ≤ e → is_from a b p o ≡ false → is_from q e p o ≡ false
before_rest a b q r e p o h le k = grind (arith, nat_tests)

none_before : (cs : List Content) (a b p o : ℕ) → contents_in_order cs ≡ true → start_from a b cs ≡ true → is_from a b p o ≡ false → content_at cs p o ≡ None
unfolding content_at
none_before [] a b p o ordered start h = refl
none_before (c ∷ cs) a b p o ordered start h =
    rw (before_first a b c.piece c.offset (length c.bytes) p o start h)
    (none_before cs c.piece (content_end c) p o (ordered_rest c cs ordered) (rest_from c cs ordered) (before_rest a b c.piece c.offset (content_end c) p o start (omega arith) h))

-- ---- what stands in the first run

pub get_there : {A : Type 0} (xs : List A) (i : ℕ) → i < length xs → slice_get xs i ≡ None → ⊥
get_there [] i lt h = absurd (omega arith)
get_there (x ∷ xs) zero lt h = absurd (cc)
get_there (x ∷ xs) (suc i) lt h = get_there xs i (omega arith) h

pub same_list : {A : Type 0} (xs ys : List A) → length xs ≡ length ys → ((i : ℕ) → i < length xs → slice_get xs i ≡ slice_get ys i) → xs ≡ ys
same_list [] [] e h = refl
same_list [] (y ∷ ys) e h = absurd (omega arith)
same_list (x ∷ xs) [] e h = absurd (omega arith)
same_list (x ∷ xs) (y ∷ ys) e h =
    let first : Some x ≡ Some y = h zero (omega arith) in
    let head : x ≡ y = cc in
    let rest : xs ≡ ys = same_list xs ys (omega arith) (λ i lt. h (suc i) (omega arith)) in
    (λ i. head i ∷ rest i)

in_first : (q r n p i : ℕ) → q ≡ p → i < n → (eqb q p && leb r (r + i) && ltb (r + i) (r + n)) ≡ true
in_first q r n p i e lt = grind (arith, nat_tests)

take_off : (r i : ℕ) → r + i - r ≡ i
take_off r i = omega arith

byte_there : (c : Content) (cs : List Content) (i : ℕ) → i < length c.bytes → content_at (c ∷ cs) c.piece (c.offset + i) ≡ slice_get c.bytes i
unfolding content_at
byte_there c cs i lt = rw (in_first c.piece c.offset (length c.bytes) c.piece i refl lt, take_off c.offset i) refl

-- ---- the first runs are the same

abbrev Same : List Content → List Content → Type 0
Same cs ds = (p o : ℕ) → content_at cs p o ≡ content_at ds p o

self_from : (p o : ℕ) → is_from p o p o ≡ true
self_from p o = grind (arith, nat_tests)

decided : (b : Bool) → (b ≡ false → ⊥) → b ≡ true
decided true h = refl
decided false h = absurd (h refl)

starts_later : (c : Content) (cs : List Content) (d : Content) (ds : List Content) → 0 < length c.bytes → contents_in_order (d ∷ ds) ≡ true → Same (c ∷ cs) (d ∷ ds) → is_from d.piece d.offset c.piece c.offset ≡ true
starts_later c cs d ds lt ordered same =
    decided (is_from d.piece d.offset c.piece c.offset) (λ before. nothing (none_before (d ∷ ds) d.piece d.offset c.piece c.offset ordered (self_from d.piece d.offset) before))
  where
    nothing : content_at (d ∷ ds) c.piece c.offset ≡ None → ⊥
    nothing h =
        let zero_in : c.offset ≡ c.offset + 0 = omega arith in
        let there : content_at (c ∷ cs) c.piece c.offset ≡ slice_get c.bytes 0 = subst (λ (n : ℕ). content_at (c ∷ cs) c.piece n ≡ slice_get c.bytes 0) (sym zero_in) (byte_there c cs 0 lt) in
        get_there c.bytes 0 lt (sym there ∙ same c.piece c.offset ∙ h)

one_start : (p o q r : ℕ) → is_from p o q r ≡ true → is_from q r p o ≡ true → (p ≡ q) × (o ≡ r)
one_start p o q r h k = (grind (arith, nat_tests), grind (arith, nat_tests))

past_first : (q r n p : ℕ) → (eqb q p && leb r (r + n) && ltb (r + n) (r + n)) ≡ false
past_first q r n p = grind (arith, nat_tests)

not_from_next : (p e : ℕ) → is_from p (e + 1) p e ≡ false
not_from_next p e = grind (arith, nat_tests)

nothing_behind : (c : Content) (cs : List Content) → length c.bytes < 1024 → contents_in_order (c ∷ cs) ≡ true → content_at (c ∷ cs) c.piece (content_end c) ≡ None
unfolding content_at
nothing_behind c cs lt ordered =
    rw (past_first c.piece c.offset (length c.bytes) c.piece)
    (none_before cs c.piece (content_end c + 1) c.piece (content_end c) (ordered_rest c cs ordered) (rest_after c cs lt ordered) (not_from_next c.piece (content_end c)))

not_longer : (c : Content) (cs : List Content) (d : Content) (ds : List Content) → c.piece ≡ d.piece → c.offset ≡ d.offset → length d.bytes ≤ 1024 → contents_in_order (c ∷ cs) ≡ true → Same (c ∷ cs) (d ∷ ds) → length c.bytes < length d.bytes → ⊥
not_longer c cs d ds e f le ordered same lt =
    let none : content_at (d ∷ ds) c.piece (content_end c) ≡ None = sym (same c.piece (content_end c)) ∙ nothing_behind c cs (omega arith) ordered in
    let moved : content_at (d ∷ ds) d.piece (d.offset + length c.bytes) ≡ None = subst (λ (q : ℕ). content_at (d ∷ ds) d.piece (q + length c.bytes) ≡ None) f (subst (λ (q : ℕ). content_at (d ∷ ds) q (content_end c) ≡ None) e none) in
    get_there d.bytes (length c.bytes) lt (sym (byte_there d ds (length c.bytes) lt) ∙ moved)

-- ---- all runs are the same

covered : (q r n p o : ℕ) → (eqb q p && leb r o && ltb o (r + n)) ≡ true → is_from q (r + n) p o ≡ false
covered q r n p o h = grind (arith, nat_tests)

rest_there : (c : Content) (cs : List Content) (p o : ℕ) → covers c p o ≡ false → content_at (c ∷ cs) p o ≡ content_at cs p o
unfolding content_at
rest_there c cs p o h = rw h refl

rest_none : (c : Content) (cs : List Content) (p o : ℕ) → contents_in_order (c ∷ cs) ≡ true → covers c p o ≡ true → content_at cs p o ≡ None
rest_none c cs p o ordered h = none_before cs c.piece (content_end c) p o (ordered_rest c cs ordered) (rest_from c cs ordered) (covered c.piece c.offset (length c.bytes) p o h)

same_rest : (c d : Content) (cs ds : List Content) → c ≡ d → contents_in_order (c ∷ cs) ≡ true → contents_in_order (d ∷ ds) ≡ true → Same (c ∷ cs) (d ∷ ds) → Same cs ds
same_rest c d cs ds e ordered other same p o = by (covers c p o) refl
  where
    by : (t : Bool) → covers c p o ≡ t → content_at cs p o ≡ content_at ds p o
    by true h = rest_none c cs p o ordered h ∙ sym (rest_none d ds p o other (subst (λ (x : Content). covers x p o ≡ true) e h))
    by false h = sym (rest_there c cs p o h) ∙ same p o ∙ rest_there d ds p o (subst (λ (x : Content). covers x p o ≡ false) e h)

sound_length : (segments : List Segment) (c : Content) → content_is_sound segments c ≡ true → (0 < length c.bytes) × (length c.bytes ≤ 1024)
sound_length segments c h =
    let prefix = and_parts (ltb 0 (length c.bytes) && leb (length c.bytes) 1024) (has_code (slice_get segments c.piece) (content_end c)) h in
    by (length c.bytes) prefix.0
  where
    by : (n : ℕ) → (ltb 0 n && leb n 1024) ≡ true → (0 < n) × (n ≤ 1024)
    by n h = (grind (arith, nat_tests), grind (arith, nat_tests))

same_content : (c d : Content) → c.piece ≡ d.piece → c.offset ≡ d.offset → c.bytes ≡ d.bytes → c ≡ d
same_content c d e f g = (λ i. record { piece = e i; offset = f i; bytes = g i })

equal_lengths : (m n : ℕ) → (m < n → ⊥) → (n < m → ⊥) → m ≡ n
equal_lengths m n f g = by (ltb m n) refl (ltb n m) refl
  where
    by : (s : Bool) → ltb m n ≡ s → (t : Bool) → ltb n m ≡ t → m ≡ n
    by true h t k = absurd (f (grind (arith, nat_tests)))
    by false h true k = absurd (g (grind (arith, nat_tests)))
    by false h false k = grind (arith, nat_tests)

first_same : (c d : Content) (cs ds : List Content) → (0 < length c.bytes) × (length c.bytes ≤ 1024) → (0 < length d.bytes) × (length d.bytes ≤ 1024)
    → contents_in_order (c ∷ cs) ≡ true → contents_in_order (d ∷ ds) ≡ true → Same (c ∷ cs) (d ∷ ds) → c ≡ d
first_same c d cs ds m n ordered other same =
    let back : Same (d ∷ ds) (c ∷ cs) = (λ p o. sym (same p o)) in
    let start : (c.piece ≡ d.piece) × (c.offset ≡ d.offset) = one_start c.piece c.offset d.piece d.offset (starts_later d ds c cs n.0 ordered back) (starts_later c cs d ds m.0 other same) in
    let long : length c.bytes ≡ length d.bytes = equal_lengths (length c.bytes) (length d.bytes) (not_longer c cs d ds start.0 start.1 n.1 ordered same) (not_longer d ds c cs (sym start.0) (sym start.1) m.1 other back) in
    same_content c d start.0 start.1 (same_list c.bytes d.bytes long (λ i lt. each i lt start.0 start.1 long))
  where
    each : (i : ℕ) → i < length c.bytes → c.piece ≡ d.piece → c.offset ≡ d.offset → length c.bytes ≡ length d.bytes → slice_get c.bytes i ≡ slice_get d.bytes i
    each i lt e f long =
        let there : content_at (d ∷ ds) c.piece (c.offset + i) ≡ slice_get c.bytes i = sym (same c.piece (c.offset + i)) ∙ byte_there c cs i lt in
        let moved : content_at (d ∷ ds) d.piece (d.offset + i) ≡ slice_get c.bytes i = subst (λ (q : ℕ). content_at (d ∷ ds) d.piece (q + i) ≡ slice_get c.bytes i) f (subst (λ (q : ℕ). content_at (d ∷ ds) q (c.offset + i) ≡ slice_get c.bytes i) e there) in
        sym moved ∙ byte_there d ds i (omega arith)

pub one_contents : (segments : List Segment) (cs ds : List Content) → list_all (content_is_sound segments) cs ≡ true → contents_in_order cs ≡ true
    → list_all (content_is_sound segments) ds ≡ true → contents_in_order ds ≡ true → ((p o : ℕ) → content_at cs p o ≡ content_at ds p o) → cs ≡ ds
unfolding contents_in_order
one_contents segments [] [] a b c d same = refl
one_contents segments [] (d ∷ ds) a b sound ordered same =
    let parts = and_parts (content_is_sound segments d) (list_all (content_is_sound segments) ds) sound in
    let lt : 0 < length d.bytes = (sound_length segments d parts.0).0 in
    absurd (get_there d.bytes 0 lt (sym (byte_there d ds 0 lt) ∙ sym (same d.piece (d.offset + 0)) ∙ nowhere d.piece (d.offset + 0)))
  where
    nowhere : (p o : ℕ) → content_at [] p o ≡ None
    nowhere p o = none_before [] p (o + 1) p o refl refl (not_from_next p o)
one_contents segments (c ∷ cs) [] sound ordered a b same =
    let parts = and_parts (content_is_sound segments c) (list_all (content_is_sound segments) cs) sound in
    let lt : 0 < length c.bytes = (sound_length segments c parts.0).0 in
    absurd (get_there c.bytes 0 lt (sym (byte_there c cs 0 lt) ∙ same c.piece (c.offset + 0) ∙ nowhere c.piece (c.offset + 0)))
  where
    nowhere : (p o : ℕ) → content_at [] p o ≡ None
    nowhere p o = none_before [] p (o + 1) p o refl refl (not_from_next p o)
one_contents segments (c ∷ cs) (d ∷ ds) sound ordered sound_d ordered_d same =
    let parts = and_parts (content_is_sound segments c) (list_all (content_is_sound segments) cs) sound in
    let others = and_parts (content_is_sound segments d) (list_all (content_is_sound segments) ds) sound_d in
    let first : c ≡ d = first_same c d cs ds (sound_length segments c parts.0) (sound_length segments d others.0) ordered ordered_d same in
    let rest : cs ≡ ds = one_contents segments cs ds parts.1 (ordered_rest c cs ordered) others.1 (ordered_rest d ds ordered_d) (same_rest c d cs ds first ordered ordered_d same) in
    (λ i. first i ∷ rest i)
