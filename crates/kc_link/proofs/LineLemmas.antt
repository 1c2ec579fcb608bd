-- No two line entries have one address, so the sorted ones rise.
use Rattle.std.proofs.Common.{◌≡◌, ℕ, zero, suc, ◌+◌, ◌<◌, ◌≤◌, Bool, true, false, cond, ◌&&◌, ◌||◌, eqb, ltb, leb, List, [], ◌∷◌, ◌++◌, map, Option, Some, None, refl, sym, ap, ◌∙◌, subst, arith}
use Rattle.std.specs.Prelude.{slice_get, if◌then◌else◌, ◌==◌}
use Rattle.std.specs.List.{list_all, count_by}
use Rattle.std.specs.List.Sorted.{IsPermutation, IsNonDecreasingBy}
use Rattle.std.proofs.lemmas.Bool.{and_parts}
use Rattle.std.proofs.lemmas.Bool.Decides.{nat_tests}
use Rattle.std.proofs.lemmas.List.Sorted.{sum_by-IsPermutation}
use Rattle.std.proofs.lemmas.List.Recursion.{is_count_by}
use Rattle.kc_obj_module.specs.declared.parts.Lines.{Lines}
use Rattle.kc_obj_module.specs.declared.parts.Segment.{Segment}
use Rattle.kc_obj_module.specs.Object.{Object}
use Rattle.kc_obj_module.specs.Pieces.{has_code}
use Rattle.kc_obj_module.specs.LineEntries.{line_is_sound, line_follows, lines_in_order, lines_are_sound}
use Rattle.kc_obj_module.specs.Numbers.{Bases}
use Rattle.kc_link_place.specs.BaseLists.{BaseLists}
use Rattle.kc_link_place.proofs.Modules.{kept}
use Rattle.kc_link_place.specs.Placing.{Places, bases_of, bases_from}
use Rattle.kc_link_place.specs.Apart.{CodeAt, AllKeepRules, CodeIsApart}
use Rattle.kc_link.specs.declared.lines.LineAt.{LineAt}
use Rattle.kc_link.specs.LineMap.{line_at, lines_in, lines_of, lines_by, Rises, IsLineMap, LinesStand, MaybeLinesStand, AllLinesStand}
use Rattle.kc_link.proofs.ContentLemmas.{InCode, code_to}
use Rattle.kc_link.proofs.ImageLemmas.{base_same}

-- ---- how many entries have an address

abbrev many : ℕ → List LineAt → ℕ
many a [] = 0
many a (e ∷ es) = if e.addr == a then 1 + many a es else many a es

many-append : (a : ℕ) (es fs : List LineAt) → many a (es ++ fs) ≡ many a es + many a fs
many-append a [] fs = omega arith
many-append a (e ∷ es) fs = by (e.addr == a) (many-append a es fs)
  where
    by : (t : Bool) → many a (es ++ fs) ≡ many a es + many a fs → (if t then 1 + many a (es ++ fs) else many a (es ++ fs)) ≡ (if t then 1 + many a es else many a es) + many a fs
    by true h = omega (arith, h)
    by false h = h

many-count : (a : ℕ) (es : List LineAt) → many a es ≡ count_by (λ e. e.addr == a) es
many-count a es = is_count_by (many a) (λ e. e.addr == a) refl (λ e fs. refl) es

many-same : (a : ℕ) (es fs : List LineAt) → IsPermutation es fs → many a fs ≡ many a es
many-same a es fs p = many-count a fs ∙ (sum_by-IsPermutation (λ e. cond (e.addr == a) 1 0) es fs p ∙ sym (many-count a es))

-- ---- sorted entries

tail-sorted : (e : LineAt) (es : List LineAt) → IsNonDecreasingBy (λ (x : LineAt). x.addr) (e ∷ es) → IsNonDecreasingBy (λ (x : LineAt). x.addr) es
tail-sorted e es h i j d l m = h (suc i) (suc j) d (omega (arith, l)) (omega (arith, m))

tail-once : (e : LineAt) (es : List LineAt) → ((a : ℕ) → many a (e ∷ es) ≤ 1) → (a : ℕ) → many a es ≤ 1
tail-once e es h a = by (e.addr == a) (h a)
  where
    by : (t : Bool) → (if t then 1 + many a es else many a es) ≤ 1 → many a es ≤ 1
    by true g = omega (arith, g)
    by false g = g

pub rising : (es : List LineAt) → IsNonDecreasingBy (λ (x : LineAt). x.addr) es → ((a : ℕ) → many a es ≤ 1) → Rises es
rising [] s o = tt
rising (e ∷ []) s o = tt
rising (e ∷ f ∷ es) s o =
    let l : e.addr ≤ f.addr = s 0 1 e (omega arith) (omega arith) in
    (below (e.addr == f.addr) refl l (o f.addr), rising (f ∷ es) (tail-sorted e (f ∷ es) s) (tail-once e (f ∷ es) o))
  where
    same : (f.addr == f.addr) ≡ true
    same = grind (arith, nat_tests)

    below : (t : Bool) → (e.addr == f.addr) ≡ t → e.addr ≤ f.addr → (if t then 1 + many f.addr (f ∷ es) else many f.addr (f ∷ es)) ≤ 1 → e.addr < f.addr
    below true q l g =
        let h : 1 + many f.addr (f ∷ es) ≤ 1 = g in
        let k : 1 + (1 + many f.addr es) ≤ 1 = rw same at h in
        absurd (omega (arith, k))
    below false q l g = let n : (e.addr ≡ f.addr) → ⊥ = (λ z. grind (arith, nat_tests, q, z)) in omega (arith, l, n)

-- ---- the entries of a module

follows_on : (p o q r s t : ℕ) → (ltb p q || (eqb p q && ltb o r)) ≡ true → (ltb q s || (eqb q s && ltb r t)) ≡ true → (ltb p s || (eqb p s && ltb o t)) ≡ true
follows_on p o q r s t h k = grind (arith, nat_tests)

follows_apart : (p o s t : ℕ) → (ltb p s || (eqb p s && ltb o t)) ≡ true → p ≡ s → o ≡ t → ⊥
follows_apart p o s t h e f = grind (arith, nat_tests, h, e, f)

rest_in_order : (l : Lines) (ls : List Lines) → lines_in_order (l ∷ ls) ≡ true → lines_in_order ls ≡ true
unfolding lines_in_order
rest_in_order l [] h = refl
rest_in_order l (k ∷ ls) h = (and_parts (line_follows l k) (lines_in_order (k ∷ ls)) h).1

next_follows : (l k : Lines) (ls : List Lines) → lines_in_order (l ∷ k ∷ ls) ≡ true → line_follows l k ≡ true
unfolding lines_in_order
next_follows l k ls h = (and_parts (line_follows l k) (lines_in_order (k ∷ ls)) h).0

later : (l : Lines) (ls : List Lines) (j : ℕ) (y : Lines) → lines_in_order (l ∷ ls) ≡ true → slice_get ls j ≡ Some y → line_follows l y ≡ true
later l [] j y h e = absurd (cc e)
later l (x ∷ ls) zero y h e = let f : x ≡ y = cc e in subst (λ (z : Lines). line_follows l z ≡ true) f (next_follows l x ls h)
later l (x ∷ ls) (suc j) y h e = follows_on l.piece l.offset x.piece x.offset y.piece y.offset (next_follows l x ls h) (later x ls j y (rest_in_order l (x ∷ ls) h) e)

record AtLine (b : Bases) (ls : List Lines) (a : ℕ) : Type 0 where
  j : ℕ
  line : Lines
  is_there : slice_get ls j ≡ Some line
  at : b.piece line.piece + line.offset ≡ a

at_line : (b : Bases) (name : List ℕ) (ls : List Lines) (a : ℕ) → 1 ≤ many a (map (line_at b name) ls) → AtLine b ls a
at_line b name [] a h = absurd (omega (arith, h))
at_line b name (l ∷ ls) a h = by (b.piece l.piece + l.offset == a) refl h (at_line b name ls a)
  where
    by : (t : Bool) → (b.piece l.piece + l.offset == a) ≡ t → 1 ≤ (if t then 1 + many a (map (line_at b name) ls) else many a (map (line_at b name) ls)) → (1 ≤ many a (map (line_at b name) ls) → AtLine b ls a) → AtLine b (l ∷ ls) a
    by true e g go = record { j = 0; line = l; is_there = refl; at = grind (arith, nat_tests, e) }
    by false e g go = let r = go g in record { j = suc r.j; line = r.line; is_there = r.is_there; at = r.at }

sound_line : (segments : List Segment) (ls : List Lines) (j : ℕ) (l : Lines) → list_all (line_is_sound segments) ls ≡ true → slice_get ls j ≡ Some l → InCode segments l.piece l.offset
sound_line segments [] j l h e = absurd (cc e)
sound_line segments (x ∷ ls) zero l h e =
    let f : x ≡ l = cc e in
    let p = (and_parts (line_is_sound segments x) (list_all (line_is_sound segments) ls) h).0 in
    let q = (and_parts (has_code (slice_get segments x.piece) (x.offset + 1)) (ltb 0 x.line) p).0 in
    subst (λ (y : Lines). InCode segments y.piece y.offset) f (code_to segments x.piece x.offset (x.offset + 1) q (omega arith))
sound_line segments (x ∷ ls) (suc j) l h e = sound_line segments ls j l (and_parts (line_is_sound segments x) (list_all (line_is_sound segments) ls) h).1 e

module _ (ms : List Object) (places : Places) (rules : AllKeepRules ms) (apart : CodeIsApart ms places) where
  record LinesOk (m : Object) (ls : List Lines) : Type 0 where
    sound : list_all (line_is_sound m.segments) ls ≡ true
    ordered : lines_in_order ls ≡ true

  lines_ok : (i : ℕ) (m : Object) (ls : List Lines) → slice_get ms i ≡ Some m → m.lines ≡ Some ls → LinesOk m ls
  lines_ok i m ls e f =
      let h : lines_are_sound m.segments (Some ls) ≡ true = rw f at (kept m (rules i m e)).lines in
      let p = and_parts (list_all (line_is_sound m.segments) ls) (lines_in_order ls) h in
      record { sound = p.0; ordered = p.1 }

  line_code : (i : ℕ) (m : Object) (ls : List Lines) (j : ℕ) (l : Lines) → slice_get ms i ≡ Some m → list_all (line_is_sound m.segments) ls ≡ true → slice_get ls j ≡ Some l →
      CodeAt ms places i l.piece ((bases_of ms places i m).piece l.piece + l.offset)
  line_code i m ls j l e h f =
      let k : InCode m.segments l.piece l.offset = sound_line m.segments ls j l h f in
      let s = base_same ms places i l.piece m in
      record { m = m; is_there = e; segment = k.segment; in_module = k.is_there; is_code = k.is_code; from = omega (arith, s); to = omega (arith, s, k.below) }

  lines_stand : (i : ℕ) (m : Object) (ls : List Lines) → slice_get ms i ≡ Some m → list_all (line_is_sound m.segments) ls ≡ true → LinesStand (bases_of ms places i m) ls
  lines_stand i m [] e h = tt
  lines_stand i m (l ∷ ls) e h = (
    (apart.within i l.piece ((bases_of ms places i m).piece l.piece + l.offset) (line_code i m (l ∷ ls) 0 l e h refl)).1,
    lines_stand i m ls e (and_parts (line_is_sound m.segments l) (list_all (line_is_sound m.segments) ls) h).1,
  )

  maybe_stand : (i : ℕ) (m : Object) → slice_get ms i ≡ Some m → (o : Option (List Lines)) → m.lines ≡ o → MaybeLinesStand (bases_of ms places i m) o
  maybe_stand i m e None f = tt
  maybe_stand i m e (Some ls) f = lines_stand i m ls e (lines_ok i m ls e f).sound

  all_stand_from : (n : ℕ) (left : List Object) → ((k : ℕ) (m : Object) → slice_get left k ≡ Some m → slice_get ms (n + k) ≡ Some m) → AllLinesStand left (bases_from ms places n left)
  unfolding bases_from
  all_stand_from n [] h = tt
  all_stand_from n (m ∷ left) h =
      let here : slice_get ms n ≡ Some m = (let q : n + 0 ≡ n = omega arith in rw q at (h 0 m refl)) in
      (maybe_stand n m here m.lines refl, all_stand_from (n + 1) left (λ k x e. let q : (n + 1) + k ≡ n + suc k = omega arith in rw q (h (suc k) x e)))

  pub all_lines_stand : AllLinesStand ms (bases_from ms places 0 ms)
  all_lines_stand = all_stand_from 0 ms (λ k m e. let q : 0 + k ≡ k = omega arith in rw q e)

  -- ---- one entry for an address

  once : (i : ℕ) (m : Object) (ls : List Lines) → slice_get ms i ≡ Some m → list_all (line_is_sound m.segments) ls ≡ true → lines_in_order ls ≡ true → (a : ℕ) → many a (map (line_at (bases_of ms places i m) m.name) ls) ≤ 1
  once i m [] e h o a = omega arith
  once i m (l ∷ ls) e h o a =
      by ((bases_of ms places i m).piece l.piece + l.offset == a) refl (leb 1 (many a (map (line_at (bases_of ms places i m) m.name) ls))) refl
      (once i m ls e (and_parts (line_is_sound m.segments l) (list_all (line_is_sound m.segments) ls) h).1 (rest_in_order l ls o) a)
    where
      not_again : (bases_of ms places i m).piece l.piece + l.offset ≡ a → AtLine (bases_of ms places i m) ls a → ⊥
      not_again f r =
          let c : CodeAt ms places i l.piece a = subst (λ (x : ℕ). CodeAt ms places i l.piece x) f (line_code i m (l ∷ ls) 0 l e h refl) in
          let d : CodeAt ms places i r.line.piece a = subst (λ (x : ℕ). CodeAt ms places i r.line.piece x) r.at (line_code i m (l ∷ ls) (suc r.j) r.line e h r.is_there) in
          let p : l.piece ≡ r.line.piece = (apart.apart i l.piece i r.line.piece a c d).1 in
          let q : l.offset ≡ r.line.offset = omega (arith, f, r.at, ap (bases_of ms places i m).piece p) in
          follows_apart l.piece l.offset r.line.piece r.line.offset (later l ls r.j r.line o r.is_there) p q

      by : (t : Bool) → ((bases_of ms places i m).piece l.piece + l.offset == a) ≡ t → (u : Bool) → leb 1 (many a (map (line_at (bases_of ms places i m) m.name) ls)) ≡ u → many a (map (line_at (bases_of ms places i m) m.name) ls) ≤ 1 →
          (if t then 1 + many a (map (line_at (bases_of ms places i m) m.name) ls) else many a (map (line_at (bases_of ms places i m) m.name) ls)) ≤ 1
      by false f u g k = k
      by true f true g k =
          let s : 1 ≤ many a (map (line_at (bases_of ms places i m) m.name) ls) = grind (arith, nat_tests, g) in
          absurd (not_again (grind (arith, nat_tests, f)) (at_line (bases_of ms places i m) m.name ls a s))
      by true f false g k = let s : many a (map (line_at (bases_of ms places i m) m.name) ls) < 1 = grind (arith, nat_tests, g) in omega (arith, s)

  record AtModule (n : ℕ) (a : ℕ) : Type 0 where
    i : ℕ
    p : ℕ
    from : n ≤ i
    code : CodeAt ms places i p a

  record Once (n : ℕ) (a count : ℕ) : Type 0 where
    le : count ≤ 1
    at : 1 ≤ count → AtModule n a

  module_once : (i : ℕ) (m : Object) → slice_get ms i ≡ Some m → (a : ℕ) (o : Option (List Lines)) → m.lines ≡ o → (many a (lines_in (bases_of ms places i m) m.name o) ≤ 1) × (1 ≤ many a (lines_in (bases_of ms places i m) m.name o) → (p : ℕ) × CodeAt ms places i p a)
  module_once i m e a None f = (omega arith, λ h. absurd (omega (arith, h)))
  module_once i m e a (Some ls) f =
      let k = lines_ok i m ls e f in (
        once i m ls e k.sound k.ordered a,
        λ h. let r = at_line (bases_of ms places i m) m.name ls a h in (r.line.piece, subst (λ (x : ℕ). CodeAt ms places i r.line.piece x) r.at (line_code i m ls r.j r.line e k.sound r.is_there)),
      )

  joined : (n a c d sum : ℕ) → sum ≡ c + d → c ≤ 1 → (1 ≤ c → (p : ℕ) × CodeAt ms places n p a) → Once (n + 1) a d → Once n a sum
  joined n a c d sum e l f r = record { le = le (leb 1 c) (leb 1 d) refl refl; at = at (leb 1 c) refl }
    where
      both : 1 ≤ c → 1 ≤ d → ⊥
      both g h =
          let x = f g in
          let y = r.at h in
          let z : n ≡ y.i = (apart.apart n x.0 y.i y.p a x.1 y.code).0 in
          omega (arith, z, y.from)

      le : (t u : Bool) → leb 1 c ≡ t → leb 1 d ≡ u → sum ≤ 1
      le true true g h = absurd (both (grind (arith, nat_tests, g)) (grind (arith, nat_tests, h)))
      le true false g h = let k : d < 1 = grind (arith, nat_tests, h) in omega (arith, e, l, k)
      le false u g h = let k : c < 1 = grind (arith, nat_tests, g) in omega (arith, e, r.le, k)

      at : (t : Bool) → leb 1 c ≡ t → 1 ≤ sum → AtModule n a
      at true g k = let x = f (grind (arith, nat_tests, g)) in record { i = n; p = x.0; from = omega arith; code = x.1 }
      at false g k =
          let q : c < 1 = grind (arith, nat_tests, g) in
          let y = r.at (omega (arith, e, k, q)) in
          record { i = y.i; p = y.p; from = omega (arith, y.from); code = y.code }

  all_once : (n : ℕ) (left : List Object) → ((k : ℕ) (m : Object) → slice_get left k ≡ Some m → slice_get ms (n + k) ≡ Some m) → (a : ℕ) → Once n a (many a (lines_of ms places n left))
  unfolding lines_of
  all_once n [] h a = record { le = omega arith; at = λ k. absurd (omega (arith, k)) }
  all_once n (m ∷ left) h a =
      let here : slice_get ms n ≡ Some m = (let q : n + 0 ≡ n = omega arith in rw q at (h 0 m refl)) in
      let first = module_once n m here a m.lines refl in
      let rest = all_once (n + 1) left (λ k x e. let q : (n + 1) + k ≡ n + suc k = omega arith in rw q (h (suc k) x e)) a in
      let sum = many-append a (lines_in (bases_of ms places n m) m.name m.lines) (lines_of ms places (n + 1) left) in
      joined n a (many a (lines_in (bases_of ms places n m) m.name m.lines)) (many a (lines_of ms places (n + 1) left)) (many a (lines_in (bases_of ms places n m) m.name m.lines ++ lines_of ms places (n + 1) left)) sum first.0 first.1 rest

  pub lines_once : (a : ℕ) → many a (lines_of ms places 0 ms) ≤ 1
  lines_once a = (all_once 0 ms (λ k m e. let q : 0 + k ≡ k = omega arith in rw q e) a).le

pub lines_same : (all : List Object) (places : Places) (n : ℕ) (ms : List Object) → lines_by ms (bases_from all places n ms) ≡ lines_of all places n ms
unfolding lines_by lines_of bases_from
lines_same all places n [] = refl
lines_same all places n (m ∷ ms) = ap (λ (l : List LineAt). lines_in (bases_of all places n m) m.name m.lines ++ l) (lines_same all places (n + 1) ms)

pub is_line_map : (ms : List Object) (places : Places) (bs : List BaseLists) (old new : List LineAt) → AllKeepRules ms → CodeIsApart ms places → bs ≡ bases_from ms places 0 ms → old ≡ lines_by ms bs → IsPermutation old new →
    IsNonDecreasingBy (λ (x : LineAt). x.addr) new → IsLineMap ms places new
is_line_map ms places bs old new rules apart b o p s =
    let e : old ≡ lines_of ms places 0 ms = o ∙ (ap (lines_by ms) b ∙ lines_same ms places 0 ms) in
    let q : IsPermutation (lines_of ms places 0 ms) new = subst (λ (l : List LineAt). IsPermutation l new) e p in
    record {
      same = q;
      rises = rising new s (λ a. let c = many-same a (lines_of ms places 0 ms) new q in omega (arith, c, lines_once ms places rules apart a));
    }
