-- The unlinked module of a source without a fault can be made into a module.
use Rattle.std.proofs.Common.{◌≡◌, ℕ, ◌≤◌, Bool, true, false, ◌&&◌, eqb, ltb, eq-eqb, List, [], ◌∷◌, map, drop, length, refl, sym, ap, ◌∙◌, subst, arith}
use Rattle.std.specs.Prelude.{Option, Some, None, slice_get, is_some}
use Rattle.std.specs.List.{list_all, AllByRecursion, IsDistinct}
use Rattle.std.proofs.lemmas.Bool.{and_parts}
use Rattle.std.proofs.lemmas.Bool.Decides.{nat_tests}
use Rattle.kc_obj_module.specs.declared.parts.SegKind.{SegKind}
use Rattle.kc_obj_module.specs.declared.parts.SegKind.TheVariants.{Reg, Code, Ram}
use Rattle.kc_obj_module.specs.declared.parts.Taken.{Taken}
use Rattle.kc_obj_module.specs.Names.{is_name}
use Rattle.kc_obj_module.specs.Pieces.{kind_number, is_relocatable}
use Rattle.kc_asm_symbols.specs.Externals.{externals}
use Rattle.kc_asm_symbols.specs.Known.{BasesAreKnown}
use Rattle.kc_asm_symbols.specs.Meanings.{in_all}
use Rattle.kc_asm_section.specs.Section.{Section}
use Rattle.kc_asm_section.specs.Writing.{WrittenStands}
use Rattle.kc_asm_section.specs.UnlinkedModules.{is_relocatable_part, stands_at, is_absolute_part, stand_well, is_public, IsPart}
use Rattle.kc_asm_section.specs.Publics.{is_same_name}
use Rattle.kc_asm_emit.specs.Bases.{ContentsAreRelocatableBytes}
use Rattle.kc_asm_emit.specs.Pairing.{ContentsArePaired}
use Rattle.kc_asm_layout.specs.SizesLaws.{SizesStay, SizesHaveLengths}
use Rattle.kc_asm_check.specs.Codes.{first_regions}
use Rattle.kc_asm_check.specs.Checking.{standing, location_list}
use Rattle.kc_asm_check.specs.Laws.{SoundStatements}
use Rattle.kc_asm_unlinked_laws.specs.Collecting.{all_given, distinct_from, first_parts}
use Rattle.kc_asm_unlinked_laws.specs.Sound.{UnlinkedModulesAreUnlinked}
use Rattle.kc_asm_unlinked_laws.proofs.Lists.{same_element}
use Rattle.kc_asm_unlinked_laws.proofs.Standing.{Holds, IsWell}
use Rattle.kc_asm_unlinked_laws.proofs.Going.{Head, head_of, is_absolute_head, AreHeads}
use Rattle.kc_asm_unlinked_laws.proofs.Walking.{walked}
use Rattle.kc_asm_unlinked_laws.proofs.Read.{standing_well}
use Rattle.kc_asm_unlinked_laws.proofs.RelocatableBytes.{names_known, all_parts}
use Rattle.kc_asm_unlinked_laws.proofs.Naming.{all_report, is_named, externals_are, all_good, distinct_good, publics_are, publics_distinct}

-- ---- places

three_true : (a b c : Bool) → a ≡ true → b ≡ true → c ≡ true → (a && b && c) ≡ true
three_true a b c p q r = (λ i. p i && q i && r i)

stands_free : (kind : SegKind) (t : Section) → head_of t ≡ (kind, None) → IsWell t → is_relocatable_part kind t ≡ true
stands_free kind t is well =
    let k : t.kind ≡ kind = ap (λ (h : Head). h.0) is in
    let a : t.at ≡ None = ap (λ (h : Head). h.1) is in
    let size : t.length ≤ 65535 = subst (λ (at : Option ℕ). Holds t.kind t.length at) a well in
    three_true (eqb (kind_number t.kind) (kind_number kind)) (is_relocatable t.at) (ltb t.length 65536)
    (eq-eqb (kind_number t.kind) (kind_number kind) (ap kind_number k)) (ap is_relocatable a) (let r : ltb t.length 65536 ≡ true = grind (arith, nat_tests) in r)

stands_there : (kind : SegKind) (size : ℕ) (at : Option ℕ) → is_some at ≡ true → Holds kind size at → stands_at kind size at ≡ true
stands_there kind size None e h = absurd (cc e)
stands_there kind size (Some address) e h = h

absolute_stand : (ts : List Section) → list_all is_absolute_head (map head_of ts) ≡ true → AllByRecursion IsWell ts → list_all is_absolute_part ts ≡ true
absolute_stand [] e h = refl
absolute_stand (t ∷ ts) e h =
    let parts = and_parts (is_some t.at) (list_all is_absolute_head (map head_of ts)) e in
    (λ i. stands_there t.kind t.length t.at parts.0 h.0 i && absolute_stand ts parts.1 h.1 i)

four_true : (a b c d : Bool) → a ≡ true → b ≡ true → c ≡ true → d ≡ true → (a && b && c && d) ≡ true
four_true a b c d p q r s = (λ i. p i && q i && r i && s i)

all_stand : (parts : List Section) → AreHeads (map head_of parts) → AllByRecursion IsWell parts → stand_well parts ≡ true
all_stand [] h w = absurd (cc h.first)
all_stand (a ∷ []) h w = let e : None ≡ Some (Code, None) = ap (λ (hs : List Head). slice_get hs 1) h.first in absurd (cc e)
all_stand (a ∷ b ∷ []) h w = let e : None ≡ Some (Ram, None) = ap (λ (hs : List Head). slice_get hs 2) h.first in absurd (cc e)
all_stand (a ∷ b ∷ c ∷ ts) h w =
    let first = same_element (head_of a) (Reg, None) (ap (λ (hs : List Head). slice_get hs 0) h.first) in
    let second = same_element (head_of b) (Code, None) (ap (λ (hs : List Head). slice_get hs 1) h.first) in
    let third = same_element (head_of c) (Ram, None) (ap (λ (hs : List Head). slice_get hs 2) h.first) in
    let rest : map head_of ts ≡ h.rest = ap (λ (hs : List Head). drop 3 hs) h.first in
    four_true (is_relocatable_part Reg a) (is_relocatable_part Code b) (is_relocatable_part Ram c) (list_all is_absolute_part ts)
    (stands_free Reg a first w.0) (stands_free Code b second w.1.0) (stands_free Ram c third w.1.1.0)
    (absolute_stand ts (ap (list_all is_absolute_head) rest ∙ h.absolute) w.1.1.1)

-- ---- the whole

pub unlinked_modules_unlinked_modules : WrittenStands → ContentsArePaired → ContentsAreRelocatableBytes → BasesAreKnown → SizesStay → SizesHaveLengths → SoundStatements → UnlinkedModulesAreUnlinked
unlinked_modules_unlinked_modules written paired relocatable_bytes bases stay lengths statements stmts d read none collected count =
    let all = standing stmts in
    let last = in_all all in
    let w = walked stay lengths statements stmts none in
    let known = names_known bases stmts in
    let well = standing_well stmts read in
    let reporting = all_report all first_regions 0 [] all (location_list stmts) first_parts w.steps well.reported in
    let names = distinct_from [] (all_given all) in
    record {
      name = ap is_name collected.name ∙ is_named last all reporting;
      externals = ap (list_all (λ (t : Taken). is_name t.name)) collected.externals ∙ externals_are last false all reporting;
      publics = ap (list_all is_public) collected.publics ∙ publics_are last (length (externals all)) known.last names (distinct_good last [] (all_given all) (all_good last all reporting));
      distinct = subst (IsDistinct is_same_name) (sym collected.publics) (publics_distinct last [] (all_given all));
      places = ap stand_well collected.parts ∙ all_stand _ w.done.heads w.done.wells;
      parts =
          subst (λ (ts : List Taken). AllByRecursion (IsPart (length ts)) d.parts.items) (sym collected.externals)
          (subst (AllByRecursion (IsPart (length (externals all)))) (sym collected.parts) (all_parts (length (externals all)) written paired relocatable_bytes all known well.reported well.in_code first_regions all (location_list stmts) w.steps));
      count = count;
    }
