-- Sources have at most one image in the ranges: their unlinked modules say the same, and so they have the same modules and places.
use Rattle.std.proofs.Common.{◌≡◌, ℕ, zero, suc, ◌+◌, ◌-◌, ◌<◌, ◌≤◌, List, [], ◌∷◌, length, map, refl, sym, ap, ◌∙◌, subst, arith}
use Rattle.std.specs.Prelude.{Some, Result, Ok, nat_lt, if◌then◌else◌, slice_get}
use Rattle.std.specs.List.Sorted.{IsPermutation}
use Rattle.std.proofs.lemmas.Option.{slice_get_within}
use Rattle.kc_code.specs.Law.{OneSpelling}
use Rattle.kc_source_statement.specs.declared.statement.Stmt.{Stmt}
use Rattle.kc_asm_symbols.specs.declared.segments.Segment.{Segment}
use Rattle.kc_asm_symbols.specs.Located.{Located, is_absolute}
use Rattle.kc_asm_symbols.specs.Meanings.{meaning}
use Rattle.kc_obj_module.specs.declared.parts.Given.{Given}
use Rattle.kc_obj_module.specs.Object.{Object}
use Rattle.kc_obj_module.specs.Numbers.{Bases}
use Rattle.kc_asm_section.specs.declared.unlinked.UnlinkedModule.{UnlinkedModule}
use Rattle.kc_asm_section.specs.Section.{Section}
use Rattle.kc_asm_section.specs.Order.{kept_of, count_of, number_of, stack_pieces, pieces_of, segment_of}
use Rattle.kc_asm_section.specs.Publics.{given_of}
use Rattle.kc_asm_section.specs.ModuleOf.{byte_at, relocated_at, entries_from, kept_in, pieces_in, IsModuleOf}
use Rattle.kc_asm_section.specs.OneModule.{OneModule}
use Rattle.kc_link_place.specs.declared.ranges.LinkFault.{LinkFault}
use Rattle.kc_link_place.specs.Placing.{Places, bases_of}
use Rattle.kc_link.specs.Placed.{placed}
use Rattle.kc_asm_unlinked_laws.specs.Parts.{part_bases}
use Rattle.kc_asm_layout.specs.declared.location.Location.{Location}
use Rattle.kc_asm_check.specs.Checking.{standing}
use Rattle.kc_asm_unlinked_laws.specs.Collecting.{IsUnlinkedModuleOf}
use Rattle.kc_asm.specs.Saying.{data_of, code_of}
use Rattle.kc_asm.specs.Linked.{address_of, Decodes, Reads, Stands, AreSources, Covers, IsLinked, OneImageOfSources}
use Rattle.kc_asm.proofs.OneImage.{one_image}

-- ---- unlinked modules that say the same

record AreSame (d e : UnlinkedModule) : Type 0 where
  name : d.name ≡ e.name
  parts : d.parts.items ≡ e.parts.items
  stack : d.stack ≡ e.stack
  externals : d.externals.items ≡ e.externals.items
  publics : d.publics.items ≡ e.publics.items

same_unlinked_modules : (stmts : List Stmt) (d e : UnlinkedModule) → IsUnlinkedModuleOf stmts d → IsUnlinkedModuleOf stmts e → AreSame d e
same_unlinked_modules stmts d e h k = record {
  name = h.name ∙ sym k.name;
  parts = h.parts ∙ sym k.parts;
  stack = h.stack ∙ sym k.stack;
  externals = h.externals ∙ sym k.externals;
  publics = h.publics ∙ sym k.publics;
}

module _ (d e : UnlinkedModule) (same : AreSame d e) where
  kept_same : kept_in d ≡ kept_in e
  kept_same = λ i. kept_of (same.parts i) (same.publics i)

  pieces_same : pieces_in d ≡ pieces_in e
  pieces_same = λ i. pieces_of (kept_same i) (same.parts i) (same.stack i)

  publics_same : map (given_of (number_of (kept_in d))) d.publics.items ≡ map (given_of (number_of (kept_in e))) e.publics.items
  publics_same = λ i. map (given_of (number_of (kept_same i))) (same.publics i)

  of_same : (m : Object) → IsModuleOf d m → IsModuleOf e m
  of_same m h = record {
    rules = h.rules;
    name = h.name ∙ same.name;
    segments = h.segments ∙ ap (map segment_of) pieces_same;
    externals = h.externals ∙ same.externals;
    publics = subst (λ (gs : List Given). IsPermutation gs m.publics) publics_same h.publics;
    contents = λ piece offset. h.contents piece offset ∙ ap (λ (ts : List Section). byte_at (slice_get ts piece) offset) pieces_same;
    fixups = λ piece offset. h.fixups piece offset ∙ (λ i. relocated_at (number_of (kept_same i)) piece (slice_get (pieces_same i) piece) offset);
    lines = h.lines ∙ ap (λ (ts : List Section). Some (entries_from 0 ts)) pieces_same;
  }

  -- ---- statements stand alike in them

  address_same : (b : Bases) (g : Segment) (s : Location) → address_of b d g s ≡ address_of b e g s
  address_same b g s = λ i.
      if is_absolute g then s.place
      else b.piece (if nat_lt g.piece 3 then number_of (kept_same i) g.piece
      else (count_of (kept_same i).registers + (count_of (kept_same i).code + (count_of (kept_same i).ram + length (stack_pieces (same.stack i))))) + (g.piece - 3)) + s.place

  bases_same : (b : Bases) → part_bases b d ≡ part_bases b e
  bases_same b = λ i. record { piece = λ part. b.piece (number_of (kept_same i) part); external = b.external }

  stands_same : (image : List ℕ) (b : Bases) (stmts : List Stmt) (before : List Located) (l : Located) (s : Location) → Stands image b stmts d before l s → Stands image b stmts e before l s
  stands_same image b stmts before l s h = record {
    within = λ n. subst (λ (a : ℕ). 0x2000 ≤ a) (address_same b l.segment s) (h.within n);
    code =
        subst (λ (x : Bases). Decodes image (address_of b e l.segment s - 0x2000) (code_of x (address_of b e l.segment s) (meaning (standing stmts) before l) s.form l l.action)) (bases_same b)
        (subst (λ (a : ℕ). Decodes image (a - 0x2000) (code_of (part_bases b d) a (meaning (standing stmts) before l) s.form l l.action)) (address_same b l.segment s) h.code);
    bytes =
        subst (λ (x : Bases). Reads image (address_of b e l.segment s - 0x2000) (data_of x (meaning (standing stmts) before l) l.action)) (bases_same b)
        (subst (λ (a : ℕ). Reads image (a - 0x2000) (data_of (part_bases b d) (meaning (standing stmts) before l) l.action)) (address_same b l.segment s) h.bytes);
  }

-- ---- modules

get_some : {A : Type 0} (xs : List A) (i : ℕ) → i < length xs → (x : A) × (slice_get xs i ≡ Some x)
get_some [] i h = absurd (omega arith)
get_some (x ∷ xs) zero h = (x, refl)
get_some (x ∷ xs) (suc i) h = get_some xs i (omega (arith, h))

from_gets : {A : Type 0} (xs ys : List A) → length xs ≡ length ys → ((i : ℕ) (x y : A) → slice_get xs i ≡ Some x → slice_get ys i ≡ Some y → x ≡ y) → xs ≡ ys
from_gets [] [] l h = refl
from_gets [] (y ∷ ys) l h = absurd (omega (arith, l))
from_gets (x ∷ xs) [] l h = absurd (omega (arith, l))
from_gets (x ∷ xs) (y ∷ ys) l h = (let e = h 0 x y refl refl in let r = from_gets xs ys (omega (arith, l)) (λ i a b p q. h (suc i) a b p q) in (λ k. e k ∷ r k))

module _ (sources : List (List Stmt)) (unlinked_modules others : List UnlinkedModule) (modules objects : List Object) (are : AreSources sources unlinked_modules modules) (also : AreSources sources others objects) where
  stmts_at : (i : ℕ) (d : UnlinkedModule) → slice_get unlinked_modules i ≡ Some d → (stmts : List Stmt) × (slice_get sources i ≡ Some stmts)
  stmts_at i d p = let l = slice_get_within unlinked_modules i d p in let n = are.unlinked_modules_count in get_some sources i (omega (arith, l, n))

  unlinked_at : (i : ℕ) (stmts : List Stmt) → slice_get sources i ≡ Some stmts → (d : UnlinkedModule) × (slice_get unlinked_modules i ≡ Some d)
  unlinked_at i stmts p = let l = slice_get_within sources i stmts p in let n = are.unlinked_modules_count in get_some unlinked_modules i (omega (arith, l, n))

  other_at : (i : ℕ) (stmts : List Stmt) → slice_get sources i ≡ Some stmts → (d : UnlinkedModule) × (slice_get others i ≡ Some d)
  other_at i stmts p = let l = slice_get_within sources i stmts p in let n = also.unlinked_modules_count in get_some others i (omega (arith, l, n))

  one_module_each : OneModule → (i : ℕ) (m n : Object) → slice_get modules i ≡ Some m → slice_get objects i ≡ Some n → m ≡ n
  one_module_each law i m n p q =
      let l = slice_get_within modules i m p in
      let count = are.modules_count in
      let s = get_some sources i (omega (arith, l, count)) in
      let d = unlinked_at i s.0 s.1 in
      let e = other_at i s.0 s.1 in
      let first = are.of i s.0 d.0 m s.1 d.1 p in
      let second = also.of i s.0 e.0 n s.1 e.1 q in
      law e.0 m n (of_same d.0 e.0 (same_unlinked_modules s.0 d.0 e.0 first.collected second.collected) m first.made) second.made

  modules_same : OneModule → modules ≡ objects
  modules_same law = from_gets modules objects (sym are.modules_count ∙ also.modules_count) (one_module_each law)

-- what is linked for some unlinked modules is linked for others of the same sources
move_linked : (sources : List (List Stmt)) (unlinked_modules others : List UnlinkedModule) (modules : List Object) (places : Places) (image : List ℕ) → AreSources sources unlinked_modules modules → AreSources sources others modules
    → IsLinked sources unlinked_modules modules places image → IsLinked sources others modules places image
move_linked sources unlinked_modules others modules places image are also h = record {
  long = h.long;
  stands = λ i stmts e m before l s p q r statement.
      let d = unlinked_at sources unlinked_modules others modules modules are also i stmts p in
      let first = are.of i stmts d.0 m p d.1 r in
      let second = also.of i stmts e m p q r in
      stands_same d.0 e (same_unlinked_modules stmts d.0 e first.collected second.collected) image (bases_of modules places i m) stmts before l s (h.stands i stmts d.0 m before l s p d.1 r statement);
  blank = λ place low none. h.blank place low (λ c. none (move c));
}
  where
    move : {place : ℕ} → Covers sources unlinked_modules modules places place → Covers sources others modules places place
    move c =
        let e = other_at sources unlinked_modules others modules modules are also c.index c.stmts c.source in
        let first = are.of c.index c.stmts c.d c.m c.source c.unlinked c.its_module in
        let second = also.of c.index c.stmts e.0 c.m c.source e.1 c.its_module in
        let address = address_same c.d e.0 (same_unlinked_modules c.stmts c.d e.0 first.collected second.collected) (bases_of modules places c.index c.m) c.l.segment c.s in
        let at = c.at in
        record {
          index = c.index;
          stmts = c.stmts;
          source = c.source;
          d = e.0;
          unlinked = e.1;
          m = c.m;
          its_module = c.its_module;
          before = c.before;
          l = c.l;
          s = c.s;
          statement = c.statement;
          byte = c.byte;
          below = c.below;
          at = omega (arith, at, address);
        }

same_places : (r : Result Places LinkFault) (p q : Places) → r ≡ Ok p → r ≡ Ok q → p ≡ q
same_places r p q e f = cc (e, f)

pub one_image_of_sources : OneSpelling → OneModule → OneImageOfSources
one_image_of_sources spelling law sources ranges image other bi bo h k =
    let same = modules_same sources h.unlinked_modules k.unlinked_modules h.modules k.modules h.are k.are law in
    let are : AreSources sources k.unlinked_modules h.modules = subst (λ (ms : List Object). AreSources sources k.unlinked_modules ms) (sym same) k.are in
    let place : placed h.modules ranges ≡ Ok k.places = subst (λ (ms : List Object). placed ms ranges ≡ Ok k.places) (sym same) k.placed in
    let places : h.places ≡ k.places = same_places (placed h.modules ranges) h.places k.places h.placed place in
    let there : IsLinked sources k.unlinked_modules h.modules k.places other = subst (λ (ms : List Object). IsLinked sources k.unlinked_modules ms k.places other) (sym same) k.linked in
    let moved : IsLinked sources h.unlinked_modules h.modules h.places other =
    move_linked sources k.unlinked_modules h.unlinked_modules h.modules h.places other are h.are (subst (λ (p : Places). IsLinked sources k.unlinked_modules h.modules p other) (sym places) there) in
    one_image spelling sources h.unlinked_modules h.modules h.places image other bi bo h.linked moved
