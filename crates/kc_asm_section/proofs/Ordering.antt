-- The pieces stand in order, and those that are empty are named.
use Rattle.std.proofs.Common.{◌≡◌, ℕ, ◌+◌, ◌<◌, ◌≤◌, Bool, true, false, not, ◌&&◌, ◌||◌, eqb, ltb, leb, if◌then◌else◌, Option, Some, None, List, [], ◌∷◌, ◌++◌, map, refl, sym, subst, ◌∙◌, arith}
use Rattle.std.specs.List.{list_all, list_any}
use Rattle.std.specs.List.Sorted.{IsPermutation}
use Rattle.std.proofs.lemmas.Bool.{and_parts}
use Rattle.std.proofs.lemmas.Bool.Decides.{nat_tests}
use Rattle.std.proofs.lemmas.List.Folds.{list_any-append}
use Rattle.std.proofs.lemmas.List.Sorted.{list_any-IsPermutation}
use Rattle.kc_expr.specs.declared.values.Base.{Base}
use Rattle.kc_expr.specs.declared.values.Base.TheVariants.{Fixed, Absolute, Piece, External}
use Rattle.kc_expr.specs.declared.values.Value.{Value}
use Rattle.kc_obj_module.specs.declared.parts.Segment.{Segment}
use Rattle.kc_obj_module.specs.declared.parts.Given.{Given}
use Rattle.kc_obj_module.specs.declared.parts.Fixup.{Fixup}
use Rattle.kc_obj_module.specs.Pieces as object
use Rattle.kc_obj_module.specs.Pieces.{kind_number, may_follow, segment_follows, segments_in_order, targets_piece, is_relocatable, is_empty, is_kept, all_kept}
use Rattle.kc_asm_encode.specs.Relocating.{is_piece}
use Rattle.kc_asm_section.specs.declared.part.PlacedByte.{PlacedByte}
use Rattle.kc_asm_section.specs.declared.unlinked.Public.{Public}
use Rattle.kc_asm_section.specs.Section.{Section, is_section, rise, placed_byte_offsets}
use Rattle.kc_asm_section.specs.declared.puts.Put.{Put}
use Rattle.kc_asm_section.specs.Order.{segment_of, relocation, aims_at, is_named, count_of, kept_if, stack_section, stack_pieces}
use Rattle.kc_asm_section.specs.Puts.{put_of, fixup_for, target_of}
use Rattle.kc_asm_section.specs.Publics.{piece_of, given_of}
use Rattle.kc_asm_section.specs.Runs.{listed, fixups_of}
use Rattle.kc_asm_section.proofs.PlacedBytes.{section_parts, rise_end}
use Rattle.kc_asm_section.proofs.RunOrder.{both}
use Rattle.kc_asm_section.proofs.Flat.{puts_from}

-- ---- in order

abbrev pub Ordered : ℕ → List Segment → Type 0
Ordered k ss = (segments_in_order ss ≡ true) × ((s : Segment) → is_relocatable s.at ≡ true → kind_number s.kind < k → segments_in_order (s ∷ ss) ≡ true)

both_relocatable : (a b : Option ℕ) (x y : ℕ) → is_relocatable a ≡ true → is_relocatable b ≡ true → x < y → may_follow a b x y ≡ true
both_relocatable None None x y h k lt = grind (arith, nat_tests)
both_relocatable None (Some b) x y h k lt = refl
both_relocatable (Some a) b x y h k lt = absurd (cc)

then_absolute : (a b : Option ℕ) (x y : ℕ) → is_relocatable b ≡ false → may_follow a b x y ≡ true
then_absolute None None x y h = absurd (cc)
then_absolute None (Some b) x y h = refl
then_absolute (Some a) None x y h = absurd (cc)
then_absolute (Some a) (Some b) x y h = refl

not_true : (b : Bool) → not b ≡ true → b ≡ false
not_true true h = absurd (cc)
not_true false h = refl

any_then_absolute : (s : Segment) (ss : List Segment) → list_all (λ s. not (is_relocatable s.at)) ss ≡ true → segments_in_order (s ∷ ss) ≡ true
unfolding segments_in_order
any_then_absolute s [] h = refl
any_then_absolute s (t ∷ ss) h =
    let parts = and_parts (not (is_relocatable t.at)) (list_all (λ s. not (is_relocatable s.at)) ss) h in
    both (segment_follows s t) (segments_in_order (t ∷ ss)) (then_absolute s.at t.at (kind_number s.kind) (kind_number t.kind) (not_true (is_relocatable t.at) parts.0)) (any_then_absolute t ss parts.1)

absolute_alone : (ss : List Segment) → list_all (λ s. not (is_relocatable s.at)) ss ≡ true → segments_in_order ss ≡ true
unfolding segments_in_order
absolute_alone [] h = refl
absolute_alone (s ∷ ss) h = any_then_absolute s ss (and_parts (not (is_relocatable s.at)) (list_all (λ s. not (is_relocatable s.at)) ss) h).1

pub absolute_ordered : (k : ℕ) (ss : List Segment) → list_all (λ s. not (is_relocatable s.at)) ss ≡ true → Ordered k ss
absolute_ordered k ss h = (absolute_alone ss h, λ s r lt. any_then_absolute s ss h)

-- one relocatable piece in front
one_ordered : (k : ℕ) (t : Segment) (ss : List Segment) → is_relocatable t.at ≡ true → kind_number t.kind ≡ k → Ordered (k + 1) ss → Ordered k (t ∷ ss)
unfolding segments_in_order
one_ordered k t ss rel kind rest =
    let first : segments_in_order (t ∷ ss) ≡ true = rest.1 t rel (omega arith) in
    (first, λ s r lt. both (segment_follows s t) (segments_in_order (t ∷ ss)) (both_relocatable s.at t.at (kind_number s.kind) (kind_number t.kind) r rel (omega arith)) first)

none_ordered : (k : ℕ) (ss : List Segment) → Ordered (k + 1) ss → Ordered k ss
none_ordered k ss rest = (rest.0, λ s r lt. rest.1 s r (omega arith))

pub kept_ordered : (k : ℕ) (b : Bool) (t : Section) (rest : List Section) → is_relocatable t.at ≡ true → kind_number t.kind ≡ k → Ordered (k + 1) (map segment_of rest) → Ordered k (map segment_of (kept_if b (Some t) ++ rest))
kept_ordered k true t rest rel kind h = one_ordered k (segment_of t) (map segment_of rest) rel kind h
kept_ordered k false t rest rel kind h = none_ordered k (map segment_of rest) h

pub stack_ordered : (bytes : ℕ) (rest : List Section) → Ordered 4 (map segment_of rest) → Ordered 3 (map segment_of (stack_pieces bytes ++ rest))
stack_ordered bytes rest h = by (eqb bytes 0)
  where
    by : (t : Bool) → Ordered 3 (map segment_of ((if t then [] else stack_section bytes ∷ []) ++ rest))
    by true = none_ordered 3 (map segment_of rest) h
    by false = one_ordered 3 (segment_of (stack_section bytes)) (map segment_of rest) refl refl h

-- ---- kept

module _ (givens : List Given) (fixups : List Fixup) where
  pub kept_next : (b : Bool) (t : Section) (rest : List Section) (index next : ℕ) → next ≡ index + count_of b → (b ≡ true → is_kept givens fixups index (segment_of t) ≡ true) → all_kept givens fixups next (map segment_of rest) ≡ true
      → all_kept givens fixups index (map segment_of (kept_if b (Some t) ++ rest)) ≡ true
  unfolding all_kept
  kept_next true t rest index next e kept h = both (is_kept givens fixups index (segment_of t)) (all_kept givens fixups (index + 1) (map segment_of rest)) (kept refl) (subst (λ (n : ℕ). all_kept givens fixups n (map segment_of rest) ≡ true) e h)
  kept_next false t rest index next e kept h = let same : next ≡ index = omega arith in subst (λ (n : ℕ). all_kept givens fixups n (map segment_of rest) ≡ true) same h

  nonempty_kept : (index : ℕ) (s : Segment) → is_empty s ≡ false → is_kept givens fixups index s ≡ true
  nonempty_kept index s h = rw h refl

  pub absolute_kept : (index : ℕ) (ts : List Section) → list_all (λ s. not (is_relocatable s.at)) (map segment_of ts) ≡ true → all_kept givens fixups index (map segment_of ts) ≡ true
  unfolding all_kept
  absolute_kept index [] h = refl
  absolute_kept index (t ∷ ts) h =
      let parts = and_parts (not (is_relocatable t.at)) (list_all (λ s. not (is_relocatable s.at)) (map segment_of ts)) h in
      let not_empty : is_empty (segment_of t) ≡ false = rw (not_true (is_relocatable t.at) parts.0) refl in
      both (is_kept givens fixups index (segment_of t)) (all_kept givens fixups (index + 1) (map segment_of ts)) (nonempty_kept index (segment_of t) not_empty) (absolute_kept (index + 1) ts parts.1)

  pub stack_kept : (index bytes : ℕ) (ts : List Section) → list_all (λ s. not (is_relocatable s.at)) (map segment_of ts) ≡ true → all_kept givens fixups index (map segment_of (stack_pieces bytes ++ ts)) ≡ true
  unfolding all_kept
  stack_kept index bytes ts h = by (eqb bytes 0) refl
    where
      by : (t : Bool) → eqb bytes 0 ≡ t → all_kept givens fixups index (map segment_of ((if t then [] else stack_section bytes ∷ []) ++ ts)) ≡ true
      by true e = absolute_kept index ts h
      by false e = both (is_kept givens fixups index (segment_of (stack_section bytes))) (all_kept givens fixups (index + 1) (map segment_of ts)) (nonempty_kept index (segment_of (stack_section bytes)) e) (absolute_kept (index + 1) ts h)

  no_stack : (n : ℕ) → n < 3 → eqb n 3 ≡ false
  no_stack n h = grind (arith, nat_tests)

  -- nonempty or named
  pub stay_kept : (index n : ℕ) (t : Section) (named : Bool) → kind_number t.kind < 3 → (ltb 0 t.length || named) ≡ true → (named ≡ true → object.is_named givens fixups index ≡ true) → is_kept givens fixups index (segment_of t) ≡ true
  stay_kept index n t named kind stay names = by (ltb 0 t.length) refl stay
    where
      with_bytes : (a : Bool) (n : ℕ) → ltb 0 n ≡ true → (a && eqb n 0) ≡ false
      with_bytes true n h = grind (arith, nat_tests)
      with_bytes false n h = refl

      or_named : (e k n : Bool) → k ≡ false → n ≡ true → (not e || (not k && n)) ≡ true
      or_named true k n h g = rw (h, g) refl
      or_named false k n h g = refl

      by : (b : Bool) → ltb 0 t.length ≡ b → (b || named) ≡ true → is_kept givens fixups index (segment_of t) ≡ true
      by true e h = nonempty_kept index (segment_of t) (with_bytes (is_relocatable t.at) t.length e)
      by false e h = or_named (is_empty (segment_of t)) (eqb (kind_number t.kind) 3) (object.is_named givens fixups index) (no_stack (kind_number t.kind) kind) (names h)

-- ---- what an unlinked module names its module names

or_cases : (a b c d : Bool) → (a ≡ true → c ≡ true) → (b ≡ true → d ≡ true) → (a || b) ≡ true → (c || d) ≡ true
or_cases true b c d f g h = rw (f refl) refl
or_cases false b true d f g h = refl
or_cases false b false d f g h = g h

same_number : (number : ℕ → ℕ) (p n : ℕ) → eqb p n ≡ true → eqb (number p) (number n) ≡ true
same_number number p n h =
    let e : p ≡ n = grind (arith, nat_tests) in
    rw e (self (number n))
  where
    self : (x : ℕ) → eqb x x ≡ true
    self x = grind (arith, nat_tests)

base_named : (number : ℕ → ℕ) (n : ℕ) (base : Base) → is_piece n base ≡ true → object.is_piece (piece_of number base) (number n) ≡ true
base_named number n Fixed h = absurd (cc)
base_named number n Absolute h = absurd (cc)
base_named number n (Piece p) h = same_number number p n h
base_named number n (External e) h = absurd (cc)

givens_name : (number : ℕ → ℕ) (n : ℕ) (ps : List Public) → list_any (λ p. is_piece n p.value.base) ps ≡ true → list_any (λ g. object.is_piece g.piece (number n)) (map (given_of number) ps) ≡ true
givens_name number n [] h = absurd (cc)
givens_name number n (p ∷ ps) h =
    or_cases (is_piece n p.value.base) (list_any (λ p. is_piece n p.value.base) ps) (object.is_piece (piece_of number p.value.base) (number n)) (list_any (λ g. object.is_piece g.piece (number n)) (map (given_of number) ps))
    (base_named number n p.value.base) (givens_name number n ps) h

abbrev pub has_aim : ℕ → Section → Bool
has_aim n t = list_any (λ c. aims_at n (relocation t c.relocatable_byte)) t.placed_bytes

target_named : (number : ℕ → ℕ) (n : ℕ) (base : Base) → is_piece n base ≡ true → targets_piece (target_of number base) (number n) ≡ true
target_named number n Fixed h = absurd (cc)
target_named number n Absolute h = absurd (cc)
target_named number n (Piece p) h = same_number number p n h
target_named number n (External e) h = absurd (cc)

module _ (number : ℕ → ℕ) (n : ℕ) where
  abbrev names : Fixup → Bool
  names f = targets_piece f.target (number n)

  one_names : (piece offset : ℕ) (r : Option (ℕ × Value)) → aims_at n r ≡ true → list_any names (listed (fixup_for number piece offset r)) ≡ true
  one_names piece offset None h = absurd (cc)
  one_names piece offset (Some r) h = rw (target_named number n r.1.base h) refl

  placed_bytes_name : (piece : ℕ) (t : Section) (placed_bytes : List PlacedByte) (rest : List Put) (b : Bool) → (b ≡ true → list_any names (fixups_of rest) ≡ true)
      → (list_any (λ c. aims_at n (relocation t c.relocatable_byte)) placed_bytes || b) ≡ true → list_any names (fixups_of (map (put_of number piece t) placed_bytes ++ rest)) ≡ true
  unfolding fixups_of
  placed_bytes_name piece t [] rest b more h = more h
  placed_bytes_name piece t (c ∷ cs) rest b more h =
      rw (list_any-append names (listed (fixup_for number piece c.offset (relocation t c.relocatable_byte))) (fixups_of (map (put_of number piece t) cs ++ rest)))
      (or_cases (aims_at n (relocation t c.relocatable_byte)) (list_any (λ c. aims_at n (relocation t c.relocatable_byte)) cs || b)
      (list_any names (listed (fixup_for number piece c.offset (relocation t c.relocatable_byte)))) (list_any names (fixups_of (map (put_of number piece t) cs ++ rest)))
      (one_names piece c.offset (relocation t c.relocatable_byte)) (placed_bytes_name piece t cs rest b more)
      (regroup (aims_at n (relocation t c.relocatable_byte)) (list_any (λ c. aims_at n (relocation t c.relocatable_byte)) cs) b h))
    where
      regroup : (x y z : Bool) → ((x || y) || z) ≡ true → (x || (y || z)) ≡ true
      regroup true y z h = refl
      regroup false y z h = h

  pieces_name : (piece : ℕ) (ts : List Section) → list_any (has_aim n) ts ≡ true → list_any names (fixups_of (puts_from number piece ts)) ≡ true
  unfolding puts_from
  pieces_name piece [] h = absurd (cc)
  pieces_name piece (t ∷ ts) h = placed_bytes_name piece t t.placed_bytes (puts_from number (piece + 1) ts) (list_any (has_aim n) ts) (pieces_name (piece + 1) ts) h

  -- all parts that have an aim are pieces
  pub module_names : (parts pieces : List Section) (publics : List Public) (givens : List Given) → IsPermutation (map (given_of number) publics) givens
      → (list_any (has_aim n) parts ≡ true → list_any (has_aim n) pieces ≡ true) → is_named parts publics n ≡ true → object.is_named givens (fixups_of (puts_from number 0 pieces)) (number n) ≡ true
  unfolding is_named
  module_names parts pieces publics givens same sub h =
      or_cases (list_any (λ p. is_piece n p.value.base) publics) (list_any (has_aim n) parts) (list_any (λ g. object.is_piece g.piece (number n)) givens) (list_any names (fixups_of (puts_from number 0 pieces)))
      (λ k. sym (list_any-IsPermutation (λ g. object.is_piece g.piece (number n)) (map (given_of number) publics) givens same) ∙ givens_name number n publics k)
      (λ k. pieces_name 0 pieces (sub k)) h

-- ---- parts that have relocatable bytes are pieces

placed_bytes_long : (t : Section) (n : ℕ) (placed_bytes : List PlacedByte) → rise 0 (placed_byte_offsets placed_bytes) t.length ≡ true → list_any (λ c. aims_at n (relocation t c.relocatable_byte)) placed_bytes ≡ true → ltb 0 t.length ≡ true
unfolding rise
placed_bytes_long t n [] rising h = absurd (cc)
placed_bytes_long t n (c ∷ cs) rising h =
    let end : c.offset + 1 ≤ t.length = rise_end (c.offset + 1) (placed_byte_offsets cs) t.length (and_parts (leb 0 c.offset) (rise (c.offset + 1) (placed_byte_offsets cs) t.length) rising).1 in
    grind (arith, nat_tests)

pub with_relocatables : (t : Section) → is_section t ≡ true → (n : ℕ) → has_aim n t ≡ true → ltb 0 t.length ≡ true
with_relocatables t section n h = placed_bytes_long t n t.placed_bytes (section_parts t section).0 h

pub kept_any : (test : Section → Bool) (k : Bool) (t : Section) (xs : List Section) (y : Bool) → (test t ≡ true → k ≡ true) → (y ≡ true → list_any test xs ≡ true) → (test t || y) ≡ true → list_any test (kept_if k (Some t) ++ xs) ≡ true
kept_any test true t xs y f g h = or_cases (test t) y (test t) (list_any test xs) (λ e. e) g h
kept_any test false t xs y f g h = by (test t) f h
  where
    by : (b : Bool) → (b ≡ true → false ≡ true) → (b || y) ≡ true → list_any test xs ≡ true
    by true f h = absurd (cc (f refl))
    by false f h = g h

pub stack_any : (test : Section → Bool) (bytes : ℕ) (xs : List Section) → list_any test xs ≡ true → list_any test (stack_pieces bytes ++ xs) ≡ true
stack_any test bytes xs h = by (eqb bytes 0)
  where
    or_right : (a b : Bool) → b ≡ true → (a || b) ≡ true
    or_right true b h = refl
    or_right false b h = h

    by : (t : Bool) → list_any test ((if t then [] else stack_section bytes ∷ []) ++ xs) ≡ true
    by true = h
    by false = or_right (test (stack_section bytes)) (list_any test xs) h
