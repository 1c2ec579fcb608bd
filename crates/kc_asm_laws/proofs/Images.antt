-- The image of texts is bytes, is the linked one, and is the only one.
use Rattle.std.proofs.Common.{◌≡◌, ℕ, zero, suc, ◌+◌, ◌-◌, ◌<◌, ◌≤◌, Bool, true, false, List, [], ◌∷◌, length, refl, sym, ap, ◌∙◌, subst, arith}
use Rattle.std.specs.Prelude.{Some, Result, Ok, nat_lt, slice_get}
use Rattle.std.proofs.lemmas.Bool.Decides.{nat_tests}
use Rattle.std.proofs.lemmas.Option.{slice_get_within}
use Rattle.kc_base.specs.Bytes.{IsBytes}
use Rattle.kc_source_statement.specs.declared.statement.Stmt.{Stmt}
use Rattle.kc_obj_module.specs.Object.{Object}
use Rattle.kc_asm_encode.specs.Filling.{fill}
use Rattle.kc_asm_encode.specs.Laws.{NumbersAreWords}
use Rattle.kc_asm_section.specs.declared.unlinked.UnlinkedModule.{UnlinkedModule}
use Rattle.kc_asm_section.specs.UnlinkedModules.{IsPart, IsUnlinkedModule}
use Rattle.kc_asm_section.proofs.OneContents.{same_list}
use Rattle.kc_link_place.specs.declared.ranges.Ranges.{Ranges}
use Rattle.kc_link_place.specs.declared.ranges.LinkFault.{LinkFault}
use Rattle.kc_link_place.specs.Placing.{Places, bases_of}
use Rattle.kc_link_place.specs.Apart.{AllKeepRules}
use Rattle.kc_link.specs.Placed.{placed}
use Rattle.kc_link.specs.Filled.{IsFilled}
use Rattle.kc_link.specs.Laws.{OneImage as OneFilled}
use Rattle.kc_link.specs.Linked.{PlacedHaveImage}
use Rattle.kc_asm_unlinked_laws.specs.Parts.{start, part_bases}
use Rattle.kc_asm_unlinked_laws.specs.Linked.{IsCovered, AreLinked, UnlinkedModulesAreLinked}
use Rattle.kc_asm_unlinked_laws.specs.Linked as unlinked_modules
use Rattle.kc_asm_unlinked_laws.specs.Sound.{UnlinkedModulesAreUnlinked, UnlinkedModulesAreWhole}
use Rattle.kc_asm_unlinked_laws.specs.Stood.{NothingElseStands}
use Rattle.kc_asm.specs.Assembled.{AreSaid, IsModule}
use Rattle.kc_asm.proofs.Said.{said_well}
use Rattle.kc_asm.specs.Linked.{IsSource, AreSources, LinkedImage, OneImage}
use Rattle.kc_source_laws.specs.Lines.{StatementsAreOfTheText}
use Rattle.kc_source_laws.specs.Read.{SourcesAreReadWell}
use Rattle.kc_asm_laws.specs.Modules.{OneModuleOfText}
use Rattle.kc_asm_laws.specs.Images.{AreModulesOf, IsLinkedOf, FilledIsLinked, LinkedIsFilled, OneImageOfTexts, OneLinkedImageOfTexts, FilledAreBytes}
use Rattle.kc_asm_laws.proofs.Filling.{fill_byte, relocatable_is, each_at}
use Rattle.kc_asm_laws.proofs.Sources.{said_bytes, unlinked_good}

-- ---- the sources behind modules

record Behind (texts : List (List ℕ)) (ms : List Object) : Type 0 where
  sources : List (List Stmt)
  count : length texts ≡ length sources
  said : (i : ℕ) (text : List ℕ) (stmts : List Stmt) → slice_get texts i ≡ Some text → slice_get sources i ≡ Some stmts → AreSaid text stmts
  unlinked_modules : List UnlinkedModule
  are : AreSources sources unlinked_modules ms

source_of : SourcesAreReadWell → (text : List ℕ) (m : Object) (is : IsModule text m) → IsSource is.stmts is.unlinked m
source_of law text m is = record {
  lines = is.said.0;
  read = is.said.2;
  characters = is.characters;
  well = said_well law text is.stmts is.said;
  sound = is.sound;
  collected = is.collected;
  few = is.few;
  made = is.made;
}

tail_of : (text : List ℕ) (texts : List (List ℕ)) (m : Object) (ms : List Object) → AreModulesOf (text ∷ texts) (m ∷ ms) → AreModulesOf texts ms
tail_of text texts m ms a = record { count = (let n = a.count in omega (arith, n)); of = λ i u x e f. a.of (suc i) u x e f }

-- a text and its module more
with_one : SourcesAreReadWell → (t : List ℕ) (texts : List (List ℕ)) (m : Object) (ms : List Object) → IsModule t m → Behind texts ms → Behind (t ∷ texts) (m ∷ ms)
with_one law t texts m ms is more = record {
  sources = is.stmts ∷ more.sources;
  count = ap suc more.count;
  said = says;
  unlinked_modules = is.unlinked ∷ more.unlinked_modules;
  are = record { unlinked_modules_count = ap suc more.are.unlinked_modules_count; modules_count = ap suc more.are.modules_count; of = each };
}
  where
    says : (i : ℕ) (text : List ℕ) (stmts : List Stmt) → slice_get (t ∷ texts) i ≡ Some text → slice_get (is.stmts ∷ more.sources) i ≡ Some stmts → AreSaid text stmts
    says zero text stmts e f =
        let one : t ≡ text = cc e in
        let two : is.stmts ≡ stmts = cc f in
        subst (λ (x : List ℕ). AreSaid x stmts) one (subst (λ (x : List Stmt). AreSaid t x) two is.said)
    says (suc i) text stmts e f = more.said i text stmts e f

    each : (i : ℕ) (stmts : List Stmt) (d : UnlinkedModule) (n : Object) → slice_get (is.stmts ∷ more.sources) i ≡ Some stmts → slice_get (is.unlinked ∷ more.unlinked_modules) i ≡ Some d → slice_get (m ∷ ms) i ≡ Some n → IsSource stmts d n
    each zero stmts d n e f g =
        let one : is.stmts ≡ stmts = cc e in
        let two : is.unlinked ≡ d = cc f in
        let three : m ≡ n = cc g in
        subst (λ (x : List Stmt). IsSource x d n) one (subst (λ (x : UnlinkedModule). IsSource is.stmts x n) two (subst (λ (x : Object). IsSource is.stmts is.unlinked x) three (source_of law t m is)))
    each (suc i) stmts d n e f g = more.are.of i stmts d n e f g

behind : SourcesAreReadWell → (texts : List (List ℕ)) (ms : List Object) → AreModulesOf texts ms → Behind texts ms
behind law [] [] a = record {
  sources = [];
  count = refl;
  said = λ i text stmts e f. absurd (cc e);
  unlinked_modules = [];
  are = record { unlinked_modules_count = refl; modules_count = refl; of = λ i stmts d m e f g. absurd (cc e) };
}
behind law [] (m ∷ ms) a = absurd (let n = a.count in omega (arith, n))
behind law (t ∷ texts) [] a = absurd (let n = a.count in omega (arith, n))
behind law (t ∷ texts) (m ∷ ms) a = with_one law t texts m ms (a.of 0 t m refl refl) (behind law texts ms (tail_of t texts m ms a))

get_some : {A : Type 0} (xs : List A) (i : ℕ) → i < length xs → (x : A) × (slice_get xs i ≡ Some x)
get_some [] i h = absurd (omega arith)
get_some (x ∷ xs) zero h = (x, refl)
get_some (x ∷ xs) (suc i) h = get_some xs i (omega (arith, h))

-- ---- bytes

all_bytes : (image : List ℕ) → ((k v : ℕ) → slice_get image k ≡ Some v → v < 256) → IsBytes image
all_bytes [] h = tt
all_bytes (b ∷ bs) h = (h 0 b refl, all_bytes bs (λ k v e. h (suc k) v e))

pub record Laws : Type 0 where
  pub words : NumbersAreWords
  pub nothing_else : NothingElseStands
  pub of_text : StatementsAreOfTheText
  pub read : SourcesAreReadWell
  pub unlinked_modules : UnlinkedModulesAreUnlinked
  pub whole : UnlinkedModulesAreWhole
  pub linked : UnlinkedModulesAreLinked

module _ (laws : Laws) where
  are_modules : (texts : List (List ℕ)) (ms : List Object) (k : Behind texts ms) → unlinked_modules.AreModulesOf k.unlinked_modules ms
  are_modules texts ms k = record {
    count = sym k.are.unlinked_modules_count ∙ k.are.modules_count;
    are_unlinked_modules = λ i d e. (let a = at i d e in laws.unlinked_modules a.0 d (is i d e).well (is i d e).sound (is i d e).collected (is i d e).few);
    are_whole = λ i d e. (let a = at i d e in laws.whole a.0 d (is i d e).sound (is i d e).collected);
    of = λ i d m e f. (let a = at i d e in (k.are.of i a.0 d m a.1 e f).made);
  }
    where
      at : (i : ℕ) (d : UnlinkedModule) → slice_get k.unlinked_modules i ≡ Some d → (stmts : List Stmt) × (slice_get k.sources i ≡ Some stmts)
      at i d e = let l = slice_get_within k.unlinked_modules i d e in let c = k.are.unlinked_modules_count in get_some k.sources i (omega (arith, l, c))

      module_at : (i : ℕ) (d : UnlinkedModule) → slice_get k.unlinked_modules i ≡ Some d → (m : Object) × (slice_get ms i ≡ Some m)
      module_at i d e = let l = slice_get_within k.unlinked_modules i d e in let c = k.are.unlinked_modules_count in let n = k.are.modules_count in get_some ms i (omega (arith, l, c, n))

      is : (i : ℕ) (d : UnlinkedModule) (e : slice_get k.unlinked_modules i ≡ Some d) → IsSource (at i d e).0 d (module_at i d e).0
      is i d e = k.are.of i (at i d e).0 d (module_at i d e).0 (at i d e).1 e (module_at i d e).1

  pub filled_are_bytes : FilledAreBytes
  filled_are_bytes texts ms ranges places image are ok filled = all_bytes image (λ place v e. by place v e (nat_lt v 256) refl)
    where
      k : Behind texts ms
      k = behind laws.read texts ms are

      of : unlinked_modules.AreModulesOf k.unlinked_modules ms
      of = are_modules texts ms k

      linked : AreLinked k.unlinked_modules ms places image
      linked = laws.linked k.unlinked_modules ms ranges places image of ok filled

      covered : (place v : ℕ) → slice_get image place ≡ Some v → IsCovered k.unlinked_modules ms places place → v < 256
      covered place v e c =
          let ld = slice_get_within k.unlinked_modules c.index c.d c.is_there in
          let nd = k.are.unlinked_modules_count in
          let nt = k.count in
          let s = get_some k.sources c.index (omega (arith, ld, nd)) in
          let t = get_some texts c.index (omega (arith, ld, nd, nt)) in
          let source = k.are.of c.index s.0 c.d c.m s.1 c.is_there c.its_module in
          let unlinked : IsUnlinkedModule c.d = of.are_unlinked_modules c.index c.d c.is_there in
          let said = said_bytes laws.of_text t.0 s.0 (k.said c.index t.0 s.0 t.1 s.1) in
          let good = unlinked_good laws.words laws.nothing_else t.0 s.0 c.d said source.sound source.collected c.part c.offset c.t c.relocatable_byte c.stands.is_part c.stands.is_relocatable_byte in
          let part = each_at (IsPart (length c.d.externals.items)) c.d.parts.items c.part c.t unlinked.parts c.stands.is_part in
          let relocatable_byte = relocatable_is (length c.d.externals.items) c.t.placed_bytes c.offset c.relocatable_byte part.relocatable_bytes c.stands.is_relocatable_byte in
          let held = (linked.holds c.index c.d c.m c.is_there c.its_module).relocatable_bytes c.part c.offset c.t c.relocatable_byte c.stands in
          let there = c.at in
          let here : (start (bases_of ms places c.index c.m) c.d c.part + c.offset) - 0x2000 ≡ place = omega (arith, there) in
          let byte : Some v ≡ Some (fill (part_bases (bases_of ms places c.index c.m) c.d) (start (bases_of ms places c.index c.m) c.d c.part + c.offset) c.relocatable_byte) = sym e ∙ (ap (slice_get image) (sym here) ∙ held.byte) in
          let same : v ≡ fill (part_bases (bases_of ms places c.index c.m) c.d) (start (bases_of ms places c.index c.m) c.d c.part + c.offset) c.relocatable_byte = cc byte in
          subst (λ (n : ℕ). n < 256) (sym same) (fill_byte (length c.d.externals.items) (part_bases (bases_of ms places c.index c.m) c.d) (start (bases_of ms places c.index c.m) c.d c.part + c.offset) c.relocatable_byte relocatable_byte good)

      by : (place v : ℕ) → slice_get image place ≡ Some v → (b : Bool) → nat_lt v 256 ≡ b → v < 256
      by place v e true t = grind (arith, nat_tests, t)
      by place v e false t =
          let large : 256 ≤ v = grind (arith, nat_tests, t) in
          let long = linked.long in
          let within : place < 0xE000 = (let l = slice_get_within image place v e in omega (arith, l, long)) in
          let blank : slice_get image place ≡ Some 255 = linked.blank place within (λ c. let small = covered place v e c in omega (arith, small, large)) in
          let both : Some v ≡ Some 255 = sym e ∙ blank in
          let same : v ≡ 255 = cc both in
          omega (arith, same)

-- ---- the linked image

pub filled_is_linked : FilledAreBytes → LinkedImage → SourcesAreReadWell → FilledIsLinked
filled_is_linked bytes law read texts ranges image h =
    let k = behind read texts h.modules h.are in
    record {
      bytes = bytes texts h.modules ranges h.places image h.are h.placed h.filled;
      sources = k.sources;
      said = k.said;
      count = k.count;
      unlinked_modules = k.unlinked_modules;
      modules = h.modules;
      are = k.are;
      places = h.places;
      placed = h.placed;
      linked = law k.sources k.unlinked_modules h.modules ranges h.places image k.are h.placed h.filled;
    }

modules_of_linked : (texts : List (List ℕ)) (ranges : Ranges) (image : List ℕ) → (h : IsLinkedOf texts ranges image) → AreModulesOf texts h.modules
modules_of_linked texts ranges image h = record {
  count = h.count ∙ h.are.modules_count;
  of = λ i text m e f.
      let l = slice_get_within texts i text e in
      let n = h.count in
      let nd = h.are.unlinked_modules_count in
      let s = get_some h.sources i (omega (arith, l, n)) in
      let d = get_some h.unlinked_modules i (omega (arith, l, n, nd)) in
      let is = h.are.of i s.0 d.0 m s.1 d.1 f in
      record { stmts = s.0; said = h.said i text s.0 e s.1; characters = is.characters; sound = is.sound; unlinked = d.0; collected = is.collected; few = is.few; made = is.made };
}

rules_of : (texts : List (List ℕ)) (ms : List Object) → AreModulesOf texts ms → AllKeepRules ms
rules_of texts ms are i m e =
    let l = slice_get_within ms i m e in
    let n = are.count in
    let t = get_some texts i (omega (arith, l, n)) in
    (are.of i t.0 m t.1 e).made.rules

pub linked_is_filled : FilledAreBytes → LinkedImage → OneImage → PlacedHaveImage → LinkedIsFilled
linked_is_filled bytes law one have texts ranges image bounds h =
    let are = modules_of_linked texts ranges image h in
    let f = have h.modules ranges h.places (record { rules = rules_of texts h.modules are; bounds = bounds; placed = h.placed }) in
    let linked = law h.sources h.unlinked_modules h.modules ranges h.places f.0 h.are h.placed f.1 in
    let same : f.0 ≡ image = one h.sources h.unlinked_modules h.modules h.places f.0 image (bytes texts h.modules ranges h.places f.0 are h.placed f.1) h.bytes linked h.linked in
    record { modules = h.modules; are = are; places = h.places; placed = h.placed; filled = subst (λ (x : List ℕ). IsFilled h.modules h.places x) same f.1 }

-- ---- one image

same_modules : OneModuleOfText → (texts : List (List ℕ)) (ms ns : List Object) → AreModulesOf texts ms → AreModulesOf texts ns → ms ≡ ns
same_modules law texts ms ns a b = same_list ms ns (sym a.count ∙ b.count) (λ i l.
    let n = a.count in
    let k = b.count in
    let t = get_some texts i (omega (arith, l, n)) in
    let m = get_some ms i l in
    let o = get_some ns i (omega (arith, l, n, k)) in
    m.1 ∙ (ap (λ (x : Object). Some x) (law t.0 m.0 o.0 (a.of i t.0 m.0 t.1 m.1) (b.of i t.0 o.0 t.1 o.1)) ∙ sym o.1))

same_places : (r : Result Places LinkFault) (p q : Places) → r ≡ Ok p → r ≡ Ok q → p ≡ q
same_places r p q e f = cc (e, f)

pub one_image_of_texts : OneModuleOfText → OneFilled → OneImageOfTexts
one_image_of_texts law one texts ranges image other h k =
    let ms : h.modules ≡ k.modules = same_modules law texts h.modules k.modules h.are k.are in
    let there : placed h.modules ranges ≡ Ok k.places = ap (λ (x : List Object). placed x ranges) ms ∙ k.placed in
    let places : h.places ≡ k.places = same_places (placed h.modules ranges) h.places k.places h.placed there in
    let moved : IsFilled h.modules h.places other = subst (λ (x : List Object). IsFilled x h.places other) (sym ms) (subst (λ (p : Places). IsFilled k.modules p other) (sym places) k.filled) in
    one h.modules h.places image other h.filled moved

pub one_linked_image_of_texts : LinkedIsFilled → OneImageOfTexts → OneLinkedImageOfTexts
one_linked_image_of_texts filled one texts ranges image other bounds h k = one texts ranges image other (filled texts ranges image bounds h) (filled texts ranges other bounds k)
