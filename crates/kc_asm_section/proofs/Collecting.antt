-- What an unlinked module without fault says of the pieces.
use Rattle.std.proofs.Common.{◌≡◌, ℕ, ◌+◌, ◌<◌, ◌≤◌, Bool, true, false, ◌&&◌, ◌||◌, eqb, ltb, leb, if◌then◌else◌, Option, Some, None, List, [], ◌∷◌, ◌++◌, length, suc, zero, refl, ap, ◌∙◌, length-append, arith}
use Rattle.std.specs.List.{list_all, list_any, AllByRecursion}
use Rattle.std.proofs.lemmas.Bool.{and_parts}
use Rattle.std.proofs.lemmas.Bool.Decides.{nat_tests}
use Rattle.kc_obj_module.specs.declared.parts.SegKind.{SegKind}
use Rattle.kc_obj_module.specs.declared.parts.SegKind.TheVariants.{Reg, Code, Ram, Stack}
use Rattle.kc_obj_module.specs.Pieces.{kind_number, in_region, is_placed, is_relocatable, based_well}
use Rattle.kc_obj_module.specs.Fixups.{may_begin}
use Rattle.kc_asm_encode.specs.declared.relocatable_byte.RelocatableByte.{RelocatableByte}
use Rattle.kc_asm_encode.specs.declared.relocatable_byte.RelocatableByte.TheVariants.{Plain, First, Second}
use Rattle.kc_asm_section.specs.declared.part.PlacedByte.{PlacedByte}
use Rattle.kc_asm_section.specs.declared.unlinked.Public.{Public}
use Rattle.kc_asm_section.specs.Section.{Section, is_section, rise}
use Rattle.kc_asm_section.specs.declared.kept.Kept.{Kept}
use Rattle.kc_asm_section.specs.Order.{start_of, segment_of, is_named, stays, count_of, number_of, kept_if, stack_section, stack_pieces, in_order}
use Rattle.kc_asm_section.specs.Puts.{has_start}
use Rattle.kc_asm_section.specs.ModuleContents.{IsAddable, AreAddable}
use Rattle.kc_asm_section.specs.UnlinkedModules.{base_exists, is_relocatable_byte, AreRelocatableBytes, IsPart, stands_at, is_relocatable_part, is_absolute_part, stand_well}
use Rattle.kc_asm_section.proofs.RunOrder.{both}
use Rattle.kc_asm_section.proofs.Ordering.{has_aim}
use Rattle.kc_asm_section.proofs.Standing.{IsPiece}

-- ---- each part can be added

region_fits : (kind : SegKind) (base len : ℕ) → in_region kind base len ≡ true → (base + len ≤ 65536) × (len < 65536)
region_fits Reg base len h = (grind (arith, nat_tests), grind (arith, nat_tests))
region_fits Code base len h = (grind (arith, nat_tests), grind (arith, nat_tests))
region_fits Ram base len h = (grind (arith, nat_tests), grind (arith, nat_tests))
region_fits Stack base len h = absurd (cc)

absolute_fits : (kind : SegKind) (at : Option ℕ) (len : ℕ) → stands_at kind len at ≡ true → (start_of at + len ≤ 65536) × (len < 65536)
absolute_fits kind None len h = absurd (cc)
absolute_fits kind (Some base) len h = region_fits kind base len h

relocatable_fits : (at : Option ℕ) (len : ℕ) → is_relocatable at ≡ true → ltb len 65536 ≡ true → (start_of at + len ≤ 65536) × (len < 65536)
relocatable_fits None len h k = (grind (arith, nat_tests), grind (arith, nat_tests))
relocatable_fits (Some base) len h k = absurd (cc)

relocatable_start : (externals : ℕ) (relocatable_byte : RelocatableByte) → is_relocatable_byte externals relocatable_byte ≡ true → has_start relocatable_byte ≡ true
relocatable_start externals (Plain b) h = refl
relocatable_start externals (First kind start v) h = (and_parts (leb kind 4) (may_begin kind (Some start)) (and_parts (leb kind 4 && may_begin kind (Some start)) (base_exists externals v.base) h).0).1
relocatable_start externals (Second kind v) h = refl

starts : (externals : ℕ) (placed_bytes : List PlacedByte) → AreRelocatableBytes externals placed_bytes → list_all (λ c. has_start c.relocatable_byte) placed_bytes ≡ true
unfolding AreRelocatableBytes
starts externals [] are = refl
starts externals (c ∷ cs) are = both (has_start c.relocatable_byte) (list_all (λ c. has_start c.relocatable_byte) cs) (relocatable_start externals c.relocatable_byte are.0) (starts externals cs are.2)

one_addable : (externals : ℕ) (t : Section) → (start_of t.at + t.length ≤ 65536) × (t.length < 65536) → IsPart externals t → IsAddable t
one_addable externals t fits part = record { short = fits.1; fits = fits.0; starts = starts externals t.placed_bytes part.relocatable_bytes }

absolute_addable : (externals : ℕ) (ts : List Section) → list_all is_absolute_part ts ≡ true → AllByRecursion (IsPart externals) ts → AreAddable ts
unfolding AreAddable
absolute_addable externals [] h are = tt
absolute_addable externals (t ∷ ts) h are =
    let parts = and_parts (is_absolute_part t) (list_all is_absolute_part ts) h in
    (one_addable externals t (absolute_fits t.kind t.at t.length parts.0) are.0, absolute_addable externals ts parts.1 are.1)

pub record IsRelocatable (kind : SegKind) (t : Section) : Type 0 where
  pub kind_is : kind_number t.kind ≡ kind_number kind
  pub is : is_relocatable t.at ≡ true
  pub short : ltb t.length 65536 ≡ true

relocatable_parts : (kind : SegKind) (t : Section) → is_relocatable_part kind t ≡ true → IsRelocatable kind t
relocatable_parts kind t h =
    let parts = and_parts (eqb (kind_number t.kind) (kind_number kind) && is_relocatable t.at) (ltb t.length 65536) h in
    let prefix = and_parts (eqb (kind_number t.kind) (kind_number kind)) (is_relocatable t.at) parts.0 in
    record { kind_is = same (kind_number t.kind) (kind_number kind) prefix.0; is = prefix.1; short = parts.1 }
  where
    same : (a b : ℕ) → eqb a b ≡ true → a ≡ b
    same a b h = grind (arith, nat_tests)

pub record StandWell (r c m : Section) (absolute : List Section) : Type 0 where
  pub registers : IsRelocatable Reg r
  pub code : IsRelocatable Code c
  pub ram : IsRelocatable Ram m
  pub others : list_all is_absolute_part absolute ≡ true

pub stand_parts : (r c m : Section) (absolute : List Section) → stand_well (r ∷ c ∷ m ∷ absolute) ≡ true → StandWell r c m absolute
stand_parts r c m absolute h =
    let last = and_parts (is_relocatable_part Reg r && is_relocatable_part Code c && is_relocatable_part Ram m) (list_all is_absolute_part absolute) h in
    let three = and_parts (is_relocatable_part Reg r && is_relocatable_part Code c) (is_relocatable_part Ram m) last.0 in
    let two = and_parts (is_relocatable_part Reg r) (is_relocatable_part Code c) three.0 in
    record { registers = relocatable_parts Reg r two.0; code = relocatable_parts Code c two.1; ram = relocatable_parts Ram m three.1; others = last.1 }

relocatable_addable : (externals : ℕ) (kind : SegKind) (t : Section) → IsRelocatable kind t → IsPart externals t → IsAddable t
relocatable_addable externals kind t rel part = one_addable externals t (relocatable_fits t.at t.length rel.is rel.short) part

pub parts_addable : (externals : ℕ) (ts : List Section) → stand_well ts ≡ true → AllByRecursion (IsPart externals) ts → AreAddable ts
unfolding AreAddable
parts_addable externals [] h are = absurd (cc)
parts_addable externals (r ∷ []) h are = absurd (cc)
parts_addable externals (r ∷ c ∷ []) h are = absurd (cc)
parts_addable externals (r ∷ c ∷ m ∷ absolute) h are =
    let stand = stand_parts r c m absolute h in
    (relocatable_addable externals Reg r stand.registers are.0, (relocatable_addable externals Code c stand.code are.1.0, (relocatable_addable externals Ram m stand.ram are.1.1.0, absolute_addable externals absolute stand.others are.1.1.1)))

pub three_parts : (ts : List Section) → stand_well ts ≡ true → 3 ≤ length ts
three_parts [] h = absurd (cc)
three_parts (r ∷ []) h = absurd (cc)
three_parts (r ∷ c ∷ []) h = absurd (cc)
three_parts (r ∷ c ∷ m ∷ absolute) h = omega arith

-- ---- each piece has its number

kept_count : (b : Bool) (t : Section) → length (kept_if b (Some t)) ≡ count_of b
kept_count true t = refl
kept_count false t = refl

module _ (parts : List Section) (publics : List Public) (kept : Kept) (r c m : Section) (stack : ℕ) (absolute : List Section)
    (kept_r : kept.registers ≡ stays parts publics r 0) (kept_c : kept.code ≡ stays parts publics c 1) (kept_m : kept.ram ≡ stays parts publics m 2) where
  abbrev pieces : List Section
  pieces = in_order kept (Some r) (Some c) (Some m) stack absolute

  pieces_count : length pieces ≡ count_of kept.registers + (count_of kept.code + (count_of kept.ram + length (stack_pieces stack ++ absolute)))
  pieces_count =
      rw (
        length-append (kept_if kept.registers (Some r)) (kept_if kept.code (Some c) ++ (kept_if kept.ram (Some m) ++ (stack_pieces stack ++ absolute))),
        length-append (kept_if kept.code (Some c)) (kept_if kept.ram (Some m) ++ (stack_pieces stack ++ absolute)),
        length-append (kept_if kept.ram (Some m)) (stack_pieces stack ++ absolute),
        kept_count kept.registers r,
        kept_count kept.code c,
        kept_count kept.ram m,
      ) refl

  named_stays : (t : Section) (n : ℕ) → is_named parts publics n ≡ true → stays parts publics t n ≡ true
  named_stays t n h = by (ltb 0 t.length)
    where
      by : (b : Bool) → (b || is_named parts publics n) ≡ true
      by true = refl
      by false = h

  pub number_below : (n : ℕ) → n < 3 → is_named parts publics n ≡ true → number_of kept n < length pieces
  number_below zero lt h =
      let one : count_of kept.registers ≡ 1 = ap count_of (kept_r ∙ named_stays r 0 h) in
      omega (arith, pieces_count, one)
  number_below (suc zero) lt h =
      let one : count_of kept.code ≡ 1 = ap count_of (kept_c ∙ named_stays c 1 h) in
      omega (arith, pieces_count, one)
  number_below (suc (suc zero)) lt h =
      let one : count_of kept.ram ≡ 1 = ap count_of (kept_m ∙ named_stays m 2 h) in
      omega (arith, pieces_count, one)
  number_below (suc (suc (suc n))) lt h = absurd (omega arith)

-- ---- each part is a piece that is sound

placed_at : (kind : SegKind) (at : Option ℕ) (len : ℕ) → stands_at kind len at ≡ true → based_well kind len at ≡ true
placed_at kind None len h = refl
placed_at kind (Some base) len h = h

placed_nowhere : (kind : SegKind) (at : Option ℕ) (len : ℕ) → is_relocatable at ≡ true → based_well kind len at ≡ true
placed_nowhere kind None len h = refl
placed_nowhere kind (Some base) len h = absurd (cc)

absolute_placed : (ts : List Section) → list_all is_absolute_part ts ≡ true → list_all (λ t. is_placed (segment_of t)) ts ≡ true
absolute_placed [] h = refl
absolute_placed (t ∷ ts) h =
    let parts = and_parts (is_absolute_part t) (list_all is_absolute_part ts) h in
    both (is_placed (segment_of t)) (list_all (λ t. is_placed (segment_of t)) ts) (placed_at t.kind t.at t.length parts.0) (absolute_placed ts parts.1)

pub parts_placed : (r c m : Section) (absolute : List Section) → StandWell r c m absolute → list_all (λ t. is_placed (segment_of t)) (r ∷ c ∷ m ∷ absolute) ≡ true
parts_placed r c m absolute stand =
    both (is_placed (segment_of r)) (list_all (λ t. is_placed (segment_of t)) (c ∷ m ∷ absolute)) (placed_nowhere r.kind r.at r.length stand.registers.is)
    (both (is_placed (segment_of c)) (list_all (λ t. is_placed (segment_of t)) (m ∷ absolute)) (placed_nowhere c.kind c.at c.length stand.code.is)
    (both (is_placed (segment_of m)) (list_all (λ t. is_placed (segment_of t)) absolute) (placed_nowhere m.kind m.at m.length stand.ram.is) (absolute_placed absolute stand.others)))

or_left : (a b : Bool) → a ≡ true → (a || b) ≡ true
or_left a b h = rw h refl

or_right : (a b : Bool) → b ≡ true → (a || b) ≡ true
or_right true b h = refl
or_right false b h = h

pub parts_pieces : (number : ℕ → ℕ) (count externals : ℕ) (ts : List Section) → ((n : ℕ) → n < 3 → list_any (has_aim n) ts ≡ true → number n < count)
    → AllByRecursion (IsPart externals) ts → list_all is_section ts ≡ true → list_all (λ t. is_placed (segment_of t)) ts ≡ true → AllByRecursion (IsPiece number count externals) ts
parts_pieces number count externals [] aims are sections placed = tt
parts_pieces number count externals (t ∷ ts) aims are sections placed =
    let section = and_parts (is_section t) (list_all is_section ts) sections in
    let place = and_parts (is_placed (segment_of t)) (list_all (λ t. is_placed (segment_of t)) ts) placed in (
      record { section = section.0; part = are.0; placed = place.0; aims = λ n lt h. aims n lt (or_left (has_aim n t) (list_any (has_aim n) ts) h) },
      parts_pieces number count externals ts (λ n lt h. aims n lt (or_right (has_aim n t) (list_any (has_aim n) ts) h)) are.1 section.1 place.1,
    )

stack_is_section : (bytes : ℕ) → bytes < 65536 → is_section (stack_section bytes) ≡ true
unfolding rise
stack_is_section bytes lt = grind (arith, nat_tests)

stack_part : (externals bytes : ℕ) → IsPart externals (stack_section bytes)
unfolding AreRelocatableBytes
stack_part externals bytes = record { code = refl; relocatable_bytes = tt; lines = refl }

pub stack_piece : (number : ℕ → ℕ) (count externals bytes : ℕ) → bytes < 65536 → IsPiece number count externals (stack_section bytes)
stack_piece number count externals bytes lt = record { section = stack_is_section bytes lt; part = stack_part externals bytes; placed = refl; aims = λ n lt h. absurd (cc) }

module _ (P : Section → Type 0) where
  all_kept_if : (b : Bool) (t : Section) (rest : List Section) → P t → AllByRecursion P rest → AllByRecursion P (kept_if b (Some t) ++ rest)
  all_kept_if true t rest h k = (h, k)
  all_kept_if false t rest h k = k

  all_stack : (bytes : ℕ) (rest : List Section) → P (stack_section bytes) → AllByRecursion P rest → AllByRecursion P (stack_pieces bytes ++ rest)
  all_stack bytes rest h k = by (eqb bytes 0)
    where
      by : (t : Bool) → AllByRecursion P ((if t then [] else stack_section bytes ∷ []) ++ rest)
      by true = k
      by false = (h, k)

  pub all_in_order : (kept : Kept) (r c m : Section) (stack : ℕ) (absolute : List Section) → AllByRecursion P (r ∷ c ∷ m ∷ absolute) → P (stack_section stack) → AllByRecursion P (in_order kept (Some r) (Some c) (Some m) stack absolute)
  all_in_order kept r c m stack absolute all own =
      all_kept_if kept.registers r (kept_if kept.code (Some c) ++ (kept_if kept.ram (Some m) ++ (stack_pieces stack ++ absolute))) all.0
      (all_kept_if kept.code c (kept_if kept.ram (Some m) ++ (stack_pieces stack ++ absolute)) all.1.0
      (all_kept_if kept.ram m (stack_pieces stack ++ absolute) all.1.1.0
      (all_stack stack absolute own all.1.1.1)))
