-- The module of an unlinked module keeps the rules, and has what the unlinked module has.
use Rattle.std.proofs.Common.{◌≡◌, ℕ, ◌+◌, ◌<◌, Bool, true, false, not, ◌&&◌, ◌||◌, eqb, ltb, if◌then◌else◌, Option, Some, None, List, [], ◌∷◌, ◌++◌, map, length, refl, sym, ap, subst, ◌∙◌, arith}
use Rattle.std.specs.List.{slice_get, list_all, list_any, AllByRecursion}
use Rattle.std.specs.List.Sorted.{IsPermutation}
use Rattle.std.proofs.lemmas.Bool.{and_parts}
use Rattle.std.proofs.lemmas.Bool.Decides.{nat_tests}
use Rattle.std.proofs.lemmas.List.{length-map}
use Rattle.std.proofs.lemmas.List.Sorted.{list_any-IsPermutation}
use Rattle.kc_expr.specs.declared.values.Base.{Base}
use Rattle.kc_expr.specs.declared.values.Base.TheVariants.{Fixed, Absolute, Piece, External}
use Rattle.kc_obj_module.specs.declared.parts.Segment.{Segment}
use Rattle.kc_obj_module.specs.declared.parts.Given.{Given}
use Rattle.kc_obj_module.specs.declared.parts.Taken.{Taken}
use Rattle.kc_obj_module.specs.declared.parts.Content.{Content}
use Rattle.kc_obj_module.specs.declared.parts.Fixup.{Fixup}
use Rattle.kc_obj_module.specs.declared.parts.Lines.{Lines}
use Rattle.kc_obj_module.specs.Names.{is_name, is_stack_name}
use Rattle.kc_obj_module.specs.Pieces as object
use Rattle.kc_obj_module.specs.Pieces.{kind_number, is_placed, is_relocatable, segments_in_order, is_kept, all_kept}
use Rattle.kc_obj_module.specs.Contents.{content_at, contents_in_order}
use Rattle.kc_obj_module.specs.Rules.{names_piece, given_is_sound, publics_in_order, publics_are_sound, segments_are_sound, contents_are_sound, fixups_are_sound, is_module, checked}
use Rattle.kc_obj_module.specs.Contents.{content_is_sound}
use Rattle.kc_obj_module.specs.Fixups.{fixup_at, fixup_is_sound, fixups_in_order, has_room}
use Rattle.kc_obj_module.specs.LineEntries.{line_is_sound, lines_in_order, lines_are_sound}
use Rattle.kc_obj_module.specs.Object.{Object, object_of}
use Rattle.kc_asm_encode.specs.Relocating.{is_piece}
use Rattle.kc_asm_section.specs.declared.unlinked.UnlinkedModule.{UnlinkedModule}
use Rattle.kc_asm_section.specs.declared.unlinked.Public.{Public}
use Rattle.kc_asm_section.specs.Section.{Section, is_section}
use Rattle.kc_asm_section.specs.declared.puts.Put.{Put}
use Rattle.kc_asm_section.specs.declared.kept.Kept.{Kept}
use Rattle.kc_asm_section.specs.Order.{segment_of, is_named, stays, kept_of, count_of, number_of, kept_if, stack_pieces, in_order, pieces_of}
use Rattle.kc_asm_section.specs.Publics.{piece_of, given_of}
use Rattle.kc_asm_section.specs.Runs.{runs, fixups_of}
use Rattle.kc_asm_section.specs.ModuleContents.{ModuleContents, module_contents_of, empty, added_all}
use Rattle.kc_asm_section.specs.UnlinkedModules.{IsUnlinkedModule, IsPart, is_public, is_given_base, is_absolute_part, stands_at, stand_well}
use Rattle.kc_asm_section.specs.ModuleOf.{entries_from, relocated_at, kept_in, pieces_in, IsModuleOf}
use Rattle.kc_asm_section.proofs.RunBytes.{put_byte, contents_are}
use Rattle.kc_asm_section.proofs.RunOrder.{both, rises, runs_in_order, runs_sound}
use Rattle.kc_asm_section.proofs.Flat.{puts_from, gathered_is, puts_rise, fixups_put, bytes_put}
use Rattle.kc_asm_section.proofs.Fixing.{AllFit, fixups_ordered, fixups_at, rooms, all_listed}
use Rattle.kc_asm_section.proofs.Standing.{IsPiece, all_stand, all_in_code, all_fit, all_sound, all_marked, all_placed, all_sections, entries_in_order}
use Rattle.kc_asm_section.proofs.Ordering.{absolute_ordered, kept_ordered, stack_ordered, kept_next, stack_kept, stay_kept, has_aim, module_names, with_relocatables, kept_any, stack_any}
use Rattle.kc_asm_section.proofs.Collecting.{StandWell, stand_parts, number_below, parts_placed, parts_pieces, stack_piece, all_in_order}

-- ---- the publics are sound

some_not : {A : Type 0} (test : A → Bool) (xs : List A) → list_all test xs ≡ not (list_any (λ x. not (test x)) xs)
some_not test [] = refl
some_not test (x ∷ xs) = by (test x) (list_all test xs) (list_any (λ x. not (test x)) xs) (some_not test xs)
  where
    by : (b c d : Bool) → c ≡ not d → (b && c) ≡ not (not b || d)
    by true c d h = h
    by false c d h = refl

all_permuted : {A : Type 0} (test : A → Bool) (xs ys : List A) → IsPermutation xs ys → list_all test xs ≡ true → list_all test ys ≡ true
all_permuted test xs ys same h = some_not test ys ∙ sym (ap not (list_any-IsPermutation (λ x. not (test x)) xs ys same)) ∙ sym (some_not test xs) ∙ h

is_self : (n : ℕ) → eqb n n ≡ true
is_self n = grind (arith, nat_tests)

count_small : (b c : Bool) → count_of b + count_of c < 65535
count_small true true = omega arith
count_small true false = omega arith
count_small false true = omega arith
count_small false false = omega arith

number_small : (kept : Kept) (n : ℕ) → number_of kept n < 65535
number_small kept n = by (eqb n 0) (eqb n 1) (count_small kept.registers kept.code)
  where
    by : (b c : Bool) → count_of kept.registers + count_of kept.code < 65535 → (if b then 0 else if c then count_of kept.registers else count_of kept.registers + count_of kept.code) < 65535
    by true c h = omega arith
    by false true h = omega arith
    by false false h = h

base_sound : (kept : Kept) (count : ℕ) (base : Base) → is_given_base base ≡ true → ((n : ℕ) → n < 3 → is_piece n base ≡ true → number_of kept n < count) → names_piece count (piece_of (number_of kept) base) ≡ true
base_sound kept count Fixed is below = refl
base_sound kept count Absolute is below = refl
base_sound kept count (Piece p) is below =
    let lt : p < 3 = grind (arith, nat_tests) in
    within (number_of kept p) count (below p lt (is_self p)) (number_small kept p)
  where
    within : (a b : ℕ) → a < b → a < 65535 → (ltb a b && ltb a 0xFFFF) ≡ true
    within a b h k = grind (arith, nat_tests)
base_sound kept count (External e) is below = refl

or_left : (a b : Bool) → a ≡ true → (a || b) ≡ true
or_left a b h = rw h refl

or_right : (a b : Bool) → b ≡ true → (a || b) ≡ true
or_right true b h = refl
or_right false b h = h

givens_sound : (kept : Kept) (count : ℕ) (ps : List Public) → list_all is_public ps ≡ true → ((n : ℕ) → n < 3 → list_any (λ p. is_piece n p.value.base) ps ≡ true → number_of kept n < count)
    → list_all (given_is_sound count) (map (given_of (number_of kept)) ps) ≡ true
givens_sound kept count [] h below = refl
givens_sound kept count (p ∷ ps) h below =
    let parts = and_parts (is_public p) (list_all is_public ps) h in
    let whole = and_parts (is_name p.name && not (is_stack_name p.name)) (is_given_base p.value.base) parts.0 in
    both (given_is_sound count (given_of (number_of kept) p)) (list_all (given_is_sound count) (map (given_of (number_of kept)) ps))
    (both (is_name p.name && not (is_stack_name p.name)) (names_piece count (piece_of (number_of kept) p.value.base)) whole.0
    (base_sound kept count p.value.base whole.1 (λ n lt k. below n lt (or_left (is_piece n p.value.base) (list_any (λ p. is_piece n p.value.base) ps) k))))
    (givens_sound kept count ps parts.1 (λ n lt k. below n lt (or_right (is_piece n p.value.base) (list_any (λ p. is_piece n p.value.base) ps) k)))

-- ---- the rules

not_relocatable : (absolute : List Section) → list_all is_absolute_part absolute ≡ true → list_all (λ s. not (is_relocatable s.at)) (map segment_of absolute) ≡ true
not_relocatable [] h = refl
not_relocatable (t ∷ ts) h =
    let parts = and_parts (is_absolute_part t) (list_all is_absolute_part ts) h in
    both (not (is_relocatable t.at)) (list_all (λ s. not (is_relocatable s.at)) (map segment_of ts)) (by t.at parts.0) (not_relocatable ts parts.1)
  where
    by : (at : Option ℕ) → stands_at t.kind t.length at ≡ true → not (is_relocatable at) ≡ true
    by None h = absurd (cc)
    by (Some base) h = refl

module _ (name : List ℕ) (r c m : Section) (absolute : List Section) (stack : ℕ) (externals : List Taken) (publics : List Public) (givens : List Given) (kept : Kept)
    (kept_r : kept.registers ≡ stays (r ∷ c ∷ m ∷ absolute) publics r 0) (kept_c : kept.code ≡ stays (r ∷ c ∷ m ∷ absolute) publics c 1) (kept_m : kept.ram ≡ stays (r ∷ c ∷ m ∷ absolute) publics m 2)
    (named : is_name name ≡ true) (externals_ok : list_all (λ t. is_name t.name) externals ≡ true) (publics_ok : list_all is_public publics ≡ true)
    (stand : StandWell r c m absolute) (are : AllByRecursion (IsPart (length externals)) (r ∷ c ∷ m ∷ absolute)) (sections : list_all is_section (r ∷ c ∷ m ∷ absolute) ≡ true)
    (short : stack < 65536) (same : IsPermutation (map (given_of (number_of kept)) publics) givens) (sorted : publics_in_order givens ≡ true) where
  abbrev parts : List Section
  parts = r ∷ c ∷ m ∷ absolute

  abbrev pieces : List Section
  pieces = in_order kept (Some r) (Some c) (Some m) stack absolute

  abbrev number : ℕ → ℕ
  number = number_of kept

  abbrev segments : List Segment
  segments = map segment_of pieces

  abbrev puts : List Put
  puts = puts_from number 0 pieces

  segment_count : length segments ≡ length pieces
  segment_count = length-map pieces segment_of

  below : (n : ℕ) → n < 3 → is_named parts publics n ≡ true → number n < length segments
  below n lt h = rw segment_count (number_below parts publics kept r c m stack absolute kept_r kept_c kept_m n lt h)

  named_by_part : (n : ℕ) → list_any (has_aim n) parts ≡ true → is_named parts publics n ≡ true
  unfolding is_named
  named_by_part n h = or_right (list_any (λ p. is_piece n p.value.base) publics) (list_any (has_aim n) parts) h

  named_by_public : (n : ℕ) → list_any (λ p. is_piece n p.value.base) publics ≡ true → is_named parts publics n ≡ true
  unfolding is_named
  named_by_public n h = or_left (list_any (λ p. is_piece n p.value.base) publics) (list_any (has_aim n) parts) h

  pub all_pieces : AllByRecursion (IsPiece number (length segments) (length externals)) pieces
  all_pieces =
      all_in_order (IsPiece number (length segments) (length externals)) kept r c m stack absolute
      (parts_pieces number (length segments) (length externals) parts (λ n lt h. below n lt (named_by_part n h)) are sections (parts_placed r c m absolute stand))
      (stack_piece number (length segments) (length externals) stack short)

  sections_of : list_all is_section pieces ≡ true
  sections_of = all_sections number segments externals pieces all_pieces

  pub rising : rises 0 0 puts ≡ true
  rising = puts_rise number 0 pieces sections_of

  pub fitting : AllFit puts
  fitting = all_fit number segments externals 0 pieces all_pieces

  absolutes : list_all (λ s. not (is_relocatable s.at)) (map segment_of absolute) ≡ true
  absolutes = not_relocatable absolute stand.others

  ordered : segments_in_order segments ≡ true
  ordered =
      (kept_ordered 0 kept.registers r (kept_if kept.code (Some c) ++ (kept_if kept.ram (Some m) ++ (stack_pieces stack ++ absolute))) stand.registers.is stand.registers.kind_is
      (kept_ordered 1 kept.code c (kept_if kept.ram (Some m) ++ (stack_pieces stack ++ absolute)) stand.code.is stand.code.kind_is
      (kept_ordered 2 kept.ram m (stack_pieces stack ++ absolute) stand.ram.is stand.ram.kind_is
      (stack_ordered stack absolute (absolute_ordered 4 (map segment_of absolute) absolutes))))).0

  section_of_part : (is_section r ≡ true) × (is_section c ≡ true) × (is_section m ≡ true)
  section_of_part =
      let one = and_parts (is_section r) (list_all is_section (c ∷ m ∷ absolute)) sections in
      let two = and_parts (is_section c) (list_all is_section (m ∷ absolute)) one.1 in
      (one.0, two.0, (and_parts (is_section m) (list_all is_section absolute) two.1).0)

  long_stays : (t : Section) (n : ℕ) (k : Bool) → k ≡ stays parts publics t n → ltb 0 t.length ≡ true → k ≡ true
  long_stays t n k e h = e ∙ or_left (ltb 0 t.length) (is_named parts publics n) h

  aims_of : (n : ℕ) → list_any (has_aim n) parts ≡ true → list_any (has_aim n) pieces ≡ true
  aims_of n =
      kept_any (has_aim n) kept.registers r (kept_if kept.code (Some c) ++ (kept_if kept.ram (Some m) ++ (stack_pieces stack ++ absolute))) (list_any (has_aim n) (c ∷ m ∷ absolute))
      (λ h. long_stays r 0 kept.registers kept_r (with_relocatables r section_of_part.0 n h))
      (kept_any (has_aim n) kept.code c (kept_if kept.ram (Some m) ++ (stack_pieces stack ++ absolute)) (list_any (has_aim n) (m ∷ absolute))
      (λ h. long_stays c 1 kept.code kept_c (with_relocatables c section_of_part.1 n h))
      (kept_any (has_aim n) kept.ram m (stack_pieces stack ++ absolute) (list_any (has_aim n) absolute)
      (λ h. long_stays m 2 kept.ram kept_m (with_relocatables m section_of_part.2 n h))
      (stack_any (has_aim n) stack absolute)))

  names : (n : ℕ) → is_named parts publics n ≡ true → object.is_named givens (fixups_of puts) (number n) ≡ true
  names n h = module_names number n parts pieces publics givens same (aims_of n) h

  stays_kept : (index n : ℕ) (t : Section) (k : Bool) → kind_number t.kind < 3 → k ≡ stays parts publics t n → number n ≡ index → k ≡ true → is_kept givens (fixups_of puts) index (segment_of t) ≡ true
  stays_kept index n t k kind e at h =
      stay_kept givens (fixups_of puts) index n t (is_named parts publics n) kind (sym e ∙ h) (λ g. subst (λ (i : ℕ). object.is_named givens (fixups_of puts) i ≡ true) at (names n g))

  kept_all : all_kept givens (fixups_of puts) 0 segments ≡ true
  kept_all =
      let first : count_of kept.registers ≡ 0 + count_of kept.registers = omega arith in
      kept_next givens (fixups_of puts) kept.registers r (kept_if kept.code (Some c) ++ (kept_if kept.ram (Some m) ++ (stack_pieces stack ++ absolute))) 0 (count_of kept.registers) first
      (stays_kept 0 0 r kept.registers (omega (arith, stand.registers.kind_is)) kept_r refl)
      (kept_next givens (fixups_of puts) kept.code c (kept_if kept.ram (Some m) ++ (stack_pieces stack ++ absolute)) (count_of kept.registers) (count_of kept.registers + count_of kept.code) refl
      (stays_kept (count_of kept.registers) 1 c kept.code (omega (arith, stand.code.kind_is)) kept_c refl)
      (kept_next givens (fixups_of puts) kept.ram m (stack_pieces stack ++ absolute) (count_of kept.registers + count_of kept.code) (count_of kept.registers + count_of kept.code + count_of kept.ram) refl
      (stays_kept (count_of kept.registers + count_of kept.code) 2 m kept.ram (omega (arith, stand.ram.kind_is)) kept_m refl)
      (stack_kept givens (fixups_of puts) (count_of kept.registers + count_of kept.code + count_of kept.ram) stack absolute absolutes)))

  segments_sound : segments_are_sound segments givens (fixups_of puts) ≡ true
  segments_sound =
      both (list_all is_placed segments && segments_in_order segments) (all_kept givens (fixups_of puts) 0 segments)
      (both (list_all is_placed segments) (segments_in_order segments) (all_placed number segments externals pieces all_pieces) ordered) kept_all

  publics_sound : publics_are_sound (length segments) givens ≡ true
  publics_sound =
      both (list_all (given_is_sound (length segments)) givens) (publics_in_order givens)
      (all_permuted (given_is_sound (length segments)) (map (given_of number) publics) givens same
      (givens_sound kept (length segments) publics publics_ok (λ n lt h. below n lt (named_by_public n h))))
      sorted

  pub bytes_are : (piece offset : ℕ) → content_at (runs [] 0 0 puts) piece offset ≡ put_byte puts piece offset
  bytes_are piece offset = contents_are puts piece offset

  contents_sound : contents_are_sound segments (runs [] 0 0 puts) ≡ true
  contents_sound =
      both (list_all (content_is_sound segments) (runs [] 0 0 puts)) (contents_in_order (runs [] 0 0 puts))
      (runs_sound segments puts [] 0 0 (omega arith) (λ h. absurd (omega arith)) (all_in_code number segments externals 0 pieces (all_stand pieces) all_pieces))
      (runs_in_order puts rising)

  fixups_sound : fixups_are_sound segments externals (runs [] 0 0 puts) (fixups_of puts) ≡ true
  fixups_sound =
      both (list_all (fixup_is_sound segments externals) (fixups_of puts) && fixups_in_order (fixups_of puts)) (list_all (has_room (runs [] 0 0 puts)) (fixups_of puts))
      (both (list_all (fixup_is_sound segments externals) (fixups_of puts)) (fixups_in_order (fixups_of puts))
      (all_listed (fixup_is_sound segments externals) puts (all_sound number segments externals 0 pieces (all_stand pieces) all_pieces)) (fixups_ordered puts 0 0 rising fitting))
      (rooms (runs [] 0 0 puts) puts 0 0 (λ piece offset from. bytes_are piece offset) rising fitting)

  lines_sound : lines_are_sound segments (Some (entries_from 0 pieces)) ≡ true
  lines_sound =
      both (list_all (line_is_sound segments) (entries_from 0 pieces)) (lines_in_order (entries_from 0 pieces))
      (all_marked number segments externals 0 pieces (all_stand pieces) all_pieces) (entries_in_order pieces sections_of)

  pub rules_kept : is_module (object_of name segments externals givens (runs [] 0 0 puts) (fixups_of puts) (Some (entries_from 0 pieces))) ≡ true
  rules_kept = rw (named, segments_sound, externals_ok, publics_sound, contents_sound, fixups_sound, lines_sound) refl

  pub fixups_are : (piece offset : ℕ) → fixup_at (fixups_of puts) piece offset ≡ relocated_at number piece (slice_get pieces piece) offset
  fixups_are piece offset = fixups_at puts 0 0 piece offset rising fitting ∙ fixups_put number pieces piece offset

-- ---- of any unlinked module

abbrev pub object_from : List ℕ → List Section → ℕ → List Taken → List Public → List Given → Object
object_from name parts stack externals publics givens =
    object_of name (map segment_of (pieces_of (kept_of parts publics) parts stack)) externals givens
    (runs [] 0 0 (puts_from (number_of (kept_of parts publics)) 0 (pieces_of (kept_of parts publics) parts stack)))
    (fixups_of (puts_from (number_of (kept_of parts publics)) 0 (pieces_of (kept_of parts publics) parts stack)))
    (Some (entries_from 0 (pieces_of (kept_of parts publics) parts stack)))

module _ (name : List ℕ) (stack : ℕ) (externals : List Taken) (publics : List Public) (givens : List Given)
    (named : is_name name ≡ true) (externals_ok : list_all (λ t. is_name t.name) externals ≡ true) (publics_ok : list_all is_public publics ≡ true) (short : stack < 65536) (sorted : publics_in_order givens ≡ true) where
  rules_of : (parts : List Section) → stand_well parts ≡ true → AllByRecursion (IsPart (length externals)) parts → list_all is_section parts ≡ true → IsPermutation (map (given_of (number_of (kept_of parts publics))) publics) givens
      → is_module (object_from name parts stack externals publics givens) ≡ true
  unfolding kept_of
  rules_of [] stand are sections same = absurd (cc)
  rules_of (r ∷ []) stand are sections same = absurd (cc)
  rules_of (r ∷ c ∷ []) stand are sections same = absurd (cc)
  rules_of (r ∷ c ∷ m ∷ absolute) stand are sections same =
      rules_kept name r c m absolute stack externals publics givens (kept_of (r ∷ c ∷ m ∷ absolute) publics) refl refl refl named externals_ok publics_ok (stand_parts r c m absolute stand) are sections short same sorted

  relocations_of : (parts : List Section) → stand_well parts ≡ true → AllByRecursion (IsPart (length externals)) parts → list_all is_section parts ≡ true → IsPermutation (map (given_of (number_of (kept_of parts publics))) publics) givens
      → (piece offset : ℕ) → fixup_at (object_from name parts stack externals publics givens).fixups piece offset ≡ relocated_at (number_of (kept_of parts publics)) piece (slice_get (pieces_of (kept_of parts publics) parts stack) piece) offset
  unfolding kept_of
  relocations_of [] stand are sections same = absurd (cc)
  relocations_of (r ∷ []) stand are sections same = absurd (cc)
  relocations_of (r ∷ c ∷ []) stand are sections same = absurd (cc)
  relocations_of (r ∷ c ∷ m ∷ absolute) stand are sections same =
      fixups_are name r c m absolute stack externals publics givens (kept_of (r ∷ c ∷ m ∷ absolute) publics) refl refl refl named externals_ok publics_ok (stand_parts r c m absolute stand) are sections short same sorted

pub module_is : (d : UnlinkedModule) (givens : List Given) → IsUnlinkedModule d → list_all is_section d.parts.items ≡ true → d.stack < 65536
    → IsPermutation (map (given_of (number_of (kept_in d))) d.publics.items) givens → publics_in_order givens ≡ true
    → IsModuleOf d (object_from d.name d.parts.items d.stack d.externals.items d.publics.items givens)
module_is d givens is sections short same sorted = record {
  rules = rules_of d.name d.stack d.externals.items d.publics.items givens is.name is.externals is.publics short sorted d.parts.items is.places is.parts sections same;
  name = refl;
  segments = refl;
  externals = refl;
  publics = same;
  contents = λ piece offset. contents_are (puts_from (number_of (kept_in d)) 0 (pieces_in d)) piece offset ∙ bytes_put (number_of (kept_in d)) (pieces_in d) piece offset;
  fixups = relocations_of d.name d.stack d.externals.items d.publics.items givens is.name is.externals is.publics short sorted d.parts.items is.places is.parts sections same;
  lines = refl;
}

-- ---- from what the calls give

module _ (d : UnlinkedModule) (is : IsUnlinkedModule d) (short : d.stack < 65536) (kept : Kept) (gathered : ModuleContents) (segments : List Segment) (lines : List Lines) (contents : List Content) (fixups : List Fixup) (givens : List Given)
    (kept_is : kept ≡ kept_in d) (sections : list_all is_section d.parts.items ≡ true)
    (gathered_as : gathered ≡ added_all (number_of kept) (pieces_of kept d.parts.items d.stack) empty)
    (segments_as : segments ≡ gathered.segments) (lines_as : lines ≡ gathered.entries) (contents_as : contents ≡ runs [] 0 0 gathered.puts) (fixups_as : fixups ≡ fixups_of gathered.puts)
    (same : IsPermutation (map (given_of (number_of kept)) d.publics.items) givens) (sorted : publics_in_order givens ≡ true) where
  abbrev whole : Object
  whole = object_from d.name d.parts.items d.stack d.externals.items d.publics.items givens

  module_contents_as : gathered ≡ module_contents_of (map segment_of (pieces_in d)) (puts_from (number_of (kept_in d)) 0 (pieces_in d)) (entries_from 0 (pieces_in d))
  module_contents_as = gathered_as ∙ ap (λ (k : Kept). added_all (number_of k) (pieces_of k d.parts.items d.stack) empty) kept_is ∙ gathered_is (number_of (kept_in d)) (pieces_in d)

  pub module_whole : IsModuleOf d whole
  module_whole = module_is d givens is sections short (subst (λ (k : Kept). IsPermutation (map (given_of (number_of k)) d.publics.items) givens) kept_is same) sorted

  object_as : object_of d.name segments d.externals.items givens contents fixups (Some lines) ≡ whole
  object_as =
      (λ i. object_of d.name (segments_as i) d.externals.items givens (contents_as i) (fixups_as i) (Some (lines_as i)))
      ∙ (λ i. object_of d.name (module_contents_as i).segments d.externals.items givens (runs [] 0 0 (module_contents_as i).puts) (fixups_of (module_contents_as i).puts) (Some (module_contents_as i).entries))

  whole_checked : checked whole ≡ Some whole
  whole_checked = rw module_whole.rules refl

  pub checked_whole : checked (object_of d.name segments d.externals.items givens contents fixups (Some lines)) ≡ Some whole
  checked_whole = ap checked object_as ∙ whole_checked
