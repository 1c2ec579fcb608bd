-- The image that is written is the filled one.
use Rattle.std.proofs.Common.{◌≡◌, ℕ, zero, suc, ◌+◌, ◌-◌, ◌<◌, Bool, true, false, List, [], ◌∷◌, ◌++◌, length, Option, Some, None, refl, sym, ap, ◌∙◌, subst, inl, inr, zero-add, arith}
use Rattle.std.specs.Prelude.{slice_get, slice_index, if◌then◌else◌, ◌⊎◌}
use Rattle.kc_obj_module.specs.declared.parts.Content.{Content}
use Rattle.kc_obj_module.specs.Object.{Object}
use Rattle.kc_obj_module.specs.Contents.{content_end, covers, content_at}
use Rattle.kc_obj_module.specs.Numbers.{Bases}
use Rattle.kc_link_place.specs.BaseLists.{or_0}
use Rattle.kc_link_place.specs.Filled.{filled_at, part_at, plus}
use Rattle.kc_link_place.proofs.Modules.{kept}
use Rattle.kc_link_place.specs.Placing.{Places, base_at, base_lists, bases_of, bases_from}
use Rattle.kc_link_place.specs.Apart.{CodeAt, AllKeepRules, CodeIsApart}
use Rattle.kc_link.specs.Placed.{unfit}
use Rattle.kc_link.specs.Filled.{StandsAt, IsFilled}
use Rattle.kc_link.specs.Writes.{written, bytes_of, runs_of, all_bytes, RunStands, RunsStand, ModulesStand}
use Rattle.kc_link.proofs.ContentLemmas.{InCode, byte_in_code, run_byte, run_some, covered_parts}
use Rattle.kc_link.proofs.PlacedLemmas.{module_fits, rest_fits}
use Rattle.kc_link.proofs.WriteLemmas.{Has, has_or_misses, stay, stand, written-long, has-left, has-right, has-either}

-- ---- the writes of runs and modules

bytes_has_at : (b : Bases) (m : Object) (p o n k x : ℕ) → k < n → o + k ≡ x → Has ((b.piece p + x) - 0x2000) (or_0 (filled_at b m p x)) (bytes_of b m p o n)
unfolding bytes_of
bytes_has_at b m p o zero k x l e = absurd (omega (arith, l))
bytes_has_at b m p o (suc n) zero x l e =
    let q : o ≡ x = omega (arith, e) in
    inl (ap (λ (y : ℕ). (b.piece p + y) - 0x2000) q, ap (λ (y : ℕ). or_0 (filled_at b m p y)) q)
bytes_has_at b m p o (suc n) (suc k) x l e = inr (bytes_has_at b m p (o + 1) n k x (omega (arith, l)) (omega (arith, e)))

bytes_has : (b : Bases) (m : Object) (p o n k : ℕ) → k < n → Has ((b.piece p + (o + k)) - 0x2000) (or_0 (filled_at b m p (o + k))) (bytes_of b m p o n)
bytes_has b m p o n k l = bytes_has_at b m p o n k (o + k) l refl

record InBytes (b : Bases) (m : Object) (p o n place byte : ℕ) : Type 0 where
  k : ℕ
  below : k < n
  at : place ≡ (b.piece p + (o + k)) - 0x2000
  is : byte ≡ or_0 (filled_at b m p (o + k))

bytes_of_has : (b : Bases) (m : Object) (p o n place byte : ℕ) → Has place byte (bytes_of b m p o n) → InBytes b m p o n place byte
unfolding bytes_of
bytes_of_has b m p o zero place byte h = absurd h
bytes_of_has b m p o (suc n) place byte (inl h) =
    let q : o + 0 ≡ o = omega arith in
    record { k = 0; below = omega arith; at = rw q (sym h.0); is = rw q (sym h.1) }
bytes_of_has b m p o (suc n) place byte (inr h) =
    let r = bytes_of_has b m p (o + 1) n place byte h in
    let q : (o + 1) + r.k ≡ o + suc r.k = omega arith in
    record { k = suc r.k; below = omega (arith, r.below); at = rw q at r.at; is = rw q at r.is }

runs_has : (b : Bases) (m : Object) (cs : List Content) (p o v : ℕ) → content_at cs p o ≡ Some v → Has ((b.piece p + o) - 0x2000) (or_0 (filled_at b m p o)) (runs_of b m cs)
unfolding content_at runs_of
runs_has b m [] p o v e = absurd (cc e)
runs_has b m (c ∷ cs) p o v e = by (covers c p o) refl e (runs_has b m cs p o v)
  where
    by : (t : Bool) → covers c p o ≡ t → (if t then slice_get c.bytes (o - c.offset) else content_at cs p o) ≡ Some v → (content_at cs p o ≡ Some v → Has ((b.piece p + o) - 0x2000) (or_0 (filled_at b m p o)) (runs_of b m cs)) →
        Has ((b.piece p + o) - 0x2000) (or_0 (filled_at b m p o)) (bytes_of b m c.piece c.offset (length c.bytes) ++ runs_of b m cs)
    by true q f go =
        let h = covered_parts c.piece c.offset (content_end c) p o q in
        let k : c.offset + (o - c.offset) ≡ o = omega (arith, h.1) in
        let w = bytes_has b m c.piece c.offset (length c.bytes) (o - c.offset) (omega (arith, h.1, h.2)) in
        let x : Has ((b.piece c.piece + o) - 0x2000) (or_0 (filled_at b m c.piece o)) (bytes_of b m c.piece c.offset (length c.bytes)) =
        subst (λ (y : ℕ). Has ((b.piece c.piece + y) - 0x2000) (or_0 (filled_at b m c.piece y)) (bytes_of b m c.piece c.offset (length c.bytes))) k w in
        has-left ((b.piece p + o) - 0x2000) (or_0 (filled_at b m p o)) (bytes_of b m c.piece c.offset (length c.bytes)) (runs_of b m cs)
        (subst (λ (y : ℕ). Has ((b.piece y + o) - 0x2000) (or_0 (filled_at b m y o)) (bytes_of b m c.piece c.offset (length c.bytes))) h.0 x)
    by false q f go = has-right ((b.piece p + o) - 0x2000) (or_0 (filled_at b m p o)) (bytes_of b m c.piece c.offset (length c.bytes)) (runs_of b m cs) (go f)

record InRuns (b : Bases) (m : Object) (cs : List Content) (place byte : ℕ) : Type 0 where
  j : ℕ
  c : Content
  is_there : slice_get cs j ≡ Some c
  bytes : InBytes b m c.piece c.offset (length c.bytes) place byte

runs_of_has : (b : Bases) (m : Object) (cs : List Content) (place byte : ℕ) → Has place byte (runs_of b m cs) → InRuns b m cs place byte
unfolding runs_of
runs_of_has b m [] place byte h = absurd h
runs_of_has b m (c ∷ cs) place byte h = by (has-either place byte (bytes_of b m c.piece c.offset (length c.bytes)) (runs_of b m cs) h) (runs_of_has b m cs place byte)
  where
    by : Has place byte (bytes_of b m c.piece c.offset (length c.bytes)) ⊎ Has place byte (runs_of b m cs) → (Has place byte (runs_of b m cs) → InRuns b m cs place byte) → InRuns b m (c ∷ cs) place byte
    by (inl k) go = record { j = 0; c = c; is_there = refl; bytes = bytes_of_has b m c.piece c.offset (length c.bytes) place byte k }
    by (inr k) go = let r = go k in record { j = suc r.j; c = r.c; is_there = r.is_there; bytes = r.bytes }

all_has : (all : List Object) (places : Places) (n : ℕ) (ms : List Object) (k i : ℕ) (m : Object) (place byte : ℕ) → slice_get ms k ≡ Some m → n + k ≡ i → Has place byte (runs_of (bases_of all places i m) m m.contents) →
    Has place byte (all_bytes ms (bases_from all places n ms))
unfolding all_bytes bases_from
all_has all places n [] k i m place byte e q h = absurd (cc e)
all_has all places n (x ∷ ms) zero i m place byte e q h =
    let f : x ≡ m = cc e in
    let r : n ≡ i = omega (arith, q) in
    has-left place byte (runs_of (bases_of all places n x) x x.contents) (all_bytes ms (bases_from all places (n + 1) ms))
    (subst (λ (y : Object). Has place byte (runs_of (bases_of all places n y) y y.contents)) (sym f) (subst (λ (j : ℕ). Has place byte (runs_of (bases_of all places j m) m m.contents)) (sym r) h))
all_has all places n (x ∷ ms) (suc k) i m place byte e q h =
    has-right place byte (runs_of (bases_of all places n x) x x.contents) (all_bytes ms (bases_from all places (n + 1) ms)) (all_has all places (n + 1) ms k i m place byte e (omega (arith, q)) h)

record InAll (all : List Object) (places : Places) (n : ℕ) (ms : List Object) (place byte : ℕ) : Type 0 where
  k : ℕ
  i : ℕ
  m : Object
  is_there : slice_get ms k ≡ Some m
  sum : n + k ≡ i
  runs : Has place byte (runs_of (bases_of all places i m) m m.contents)

all_of_has : (all : List Object) (places : Places) (n : ℕ) (ms : List Object) (place byte : ℕ) → Has place byte (all_bytes ms (bases_from all places n ms)) → InAll all places n ms place byte
unfolding all_bytes bases_from
all_of_has all places n [] place byte h = absurd h
all_of_has all places n (x ∷ ms) place byte h = by (has-either place byte (runs_of (bases_of all places n x) x x.contents) (all_bytes ms (bases_from all places (n + 1) ms)) h) (all_of_has all places (n + 1) ms place byte)
  where
    by : Has place byte (runs_of (bases_of all places n x) x x.contents) ⊎ Has place byte (all_bytes ms (bases_from all places (n + 1) ms)) →
        (Has place byte (all_bytes ms (bases_from all places (n + 1) ms)) → InAll all places (n + 1) ms place byte) → InAll all places n (x ∷ ms) place byte
    by (inl g) go = record { k = 0; i = n; m = x; is_there = refl; sum = omega arith; runs = g }
    by (inr g) go = let r = go g in record { k = suc r.k; i = r.i; m = r.m; is_there = r.is_there; sum = omega (arith, r.sum); runs = r.runs }

-- ---- where the bytes stand

pub base_same : (ms : List Object) (places : Places) (i p : ℕ) (m : Object) → (bases_of ms places i m).piece p ≡ base_at places.pieces i p
unfolding base_lists base_at
base_same ms places i p m = refl

plus_some : (n : ℕ) (o : Option ℕ) (v : ℕ) → plus n o ≡ Some v → (b : ℕ) × (o ≡ Some b)
plus_some n None v e = absurd (cc e)
plus_some n (Some b) v e = (b, refl)

filled_content : (b : Bases) (m : Object) (p o v : ℕ) → filled_at b m p o ≡ Some v → (c : ℕ) × (content_at m.contents p o ≡ Some c)
unfolding filled_at
filled_content b m p o v e = plus_some (part_at b m.fixups p o) (content_at m.contents p o) v e

content_filled : (b : Bases) (m : Object) (p o c : ℕ) → content_at m.contents p o ≡ Some c → filled_at b m p o ≡ Some (c + part_at b m.fixups p o)
unfolding filled_at
content_filled b m p o c e = rw e refl

module _ (ms : List Object) (places : Places) (rules : AllKeepRules ms) (apart : CodeIsApart ms places) where
  code_at : (i p o v : ℕ) (m : Object) → slice_get ms i ≡ Some m → content_at m.contents p o ≡ Some v → CodeAt ms places i p ((bases_of ms places i m).piece p + o)
  code_at i p o v m e f =
      let k : InCode m.segments p o = byte_in_code m.segments m.contents p o v (kept m (rules i m e)).contents f in
      let s = base_same ms places i p m in
      record { m = m; is_there = e; segment = k.segment; in_module = k.is_there; is_code = k.is_code; from = omega (arith, s); to = omega (arith, s, k.below) }

  run_stands : (i : ℕ) (m : Object) → slice_get ms i ≡ Some m → (j : ℕ) (c : Content) → slice_get m.contents j ≡ Some c → RunStands (bases_of ms places i m) m c
  run_stands i m e j c f =
      let k = kept m (rules i m e) in
      let some : 0 < length c.bytes = run_some m.segments m.contents j c k.contents f in
      let bytes : (n : ℕ) → n < length c.bytes → content_at m.contents c.piece (c.offset + n) ≡ Some (slice_index c.bytes n) = λ n l. run_byte m.contents j c n k.contents_ordered f l in
      let first = apart.within i c.piece ((bases_of ms places i m).piece c.piece + (c.offset + 0)) (code_at i c.piece (c.offset + 0) (slice_index c.bytes 0) m e (bytes 0 some)) in
      let n : ℕ = length c.bytes - 1 in
      let final = apart.within i c.piece ((bases_of ms places i m).piece c.piece + (c.offset + n)) (code_at i c.piece (c.offset + n) (slice_index c.bytes n) m e (bytes n (omega (arith, some)))) in
      record { low = omega (arith, first.0); high = omega (arith, final.1, some); bytes = bytes }

  runs_stand_from : (b : Bases) (m : Object) (cs : List Content) → ((j : ℕ) (c : Content) → slice_get cs j ≡ Some c → RunStands b m c) → RunsStand b m cs
  runs_stand_from b m [] h = tt
  runs_stand_from b m (c ∷ cs) h = (h 0 c refl, runs_stand_from b m cs (λ j d e. h (suc j) d e))

  modules_stand_from : (n : ℕ) (left : List Object) → ((k : ℕ) (m : Object) → slice_get left k ≡ Some m → slice_get ms (n + k) ≡ Some m) → unfit ms places n left ≡ None →
      ModulesStand left (bases_from ms places n left)
  unfolding bases_from
  modules_stand_from n [] h u = tt
  modules_stand_from n (m ∷ left) h u =
      let here : slice_get ms n ≡ Some m = (let q : n + 0 ≡ n = omega arith in rw q at (h 0 m refl)) in (
        (module_fits ms places n (m ∷ left) u 0 n m (omega arith) refl, runs_stand_from (bases_of ms places n m) m m.contents (run_stands n m here)),
        modules_stand_from (n + 1) left (λ k x e. let q : (n + 1) + k ≡ n + suc k = omega arith in rw q (h (suc k) x e)) (rest_fits ms places n m left u),
      )

  pub modules_stand : unfit ms places 0 ms ≡ None → ModulesStand ms (bases_from ms places 0 ms)
  modules_stand u = modules_stand_from 0 ms (λ k m e. let q : 0 + k ≡ k = omega arith in rw q e) u

  -- ---- the bytes that are written are those that stand

  stands_has : (place : ℕ) (s : StandsAt ms places place) → Has place s.value (all_bytes ms (bases_from ms places 0 ms))
  stands_has place s =
      let c = filled_content (bases_of ms places s.index s.m) s.m s.piece s.offset s.value s.stands in
      let w = runs_has (bases_of ms places s.index s.m) s.m s.m.contents s.piece s.offset c.0 c.1 in
      let p : ((bases_of ms places s.index s.m).piece s.piece + s.offset) - 0x2000 ≡ place = omega (arith, s.at) in
      let v : or_0 (filled_at (bases_of ms places s.index s.m) s.m s.piece s.offset) ≡ s.value = ap or_0 s.stands in
      all_has ms places 0 ms s.index s.index s.m place s.value s.is_there (zero-add s.index)
      (subst (λ (x : ℕ). Has x s.value (runs_of (bases_of ms places s.index s.m) s.m s.m.contents)) p
      (subst (λ (x : ℕ). Has (((bases_of ms places s.index s.m).piece s.piece + s.offset) - 0x2000) x (runs_of (bases_of ms places s.index s.m) s.m s.m.contents)) v w))

  record Found (place byte : ℕ) : Type 0 where
    s : StandsAt ms places place
    is : s.value ≡ byte

  has_stands : (place byte : ℕ) → Has place byte (all_bytes ms (bases_from ms places 0 ms)) → Found place byte
  has_stands place byte h =
      let a = all_of_has ms places 0 ms place byte h in
      let q : a.k ≡ a.i = omega (arith, a.sum) in
      let e : slice_get ms a.i ≡ Some a.m = rw q at a.is_there in
      let b : Bases = bases_of ms places a.i a.m in
      let r = runs_of_has (bases_of ms places a.i a.m) a.m a.m.contents place byte a.runs in
      let o : ℕ = r.c.offset + r.bytes.k in
      let t : content_at a.m.contents r.c.piece (r.c.offset + r.bytes.k) ≡ Some (slice_index r.c.bytes r.bytes.k) = run_byte a.m.contents r.j r.c r.bytes.k (kept a.m (rules a.i a.m e)).contents_ordered r.is_there r.bytes.below in
      let f = content_filled (bases_of ms places a.i a.m) a.m r.c.piece (r.c.offset + r.bytes.k) (slice_index r.c.bytes r.bytes.k) t in
      let w = apart.within a.i r.c.piece ((bases_of ms places a.i a.m).piece r.c.piece + (r.c.offset + r.bytes.k)) (code_at a.i r.c.piece (r.c.offset + r.bytes.k) (slice_index r.c.bytes r.bytes.k) a.m e t) in
      record {
        s = record { index = a.i; m = a.m; is_there = e; piece = r.c.piece; offset = r.c.offset + r.bytes.k; value = _; stands = f; at = omega (arith, r.bytes.at, w.0) };
        is = sym (r.bytes.is ∙ ap or_0 f);
      }

  stands_code : (place : ℕ) (s : StandsAt ms places place) → CodeAt ms places s.index s.piece (0x2000 + place)
  stands_code place s =
      let c = filled_content (bases_of ms places s.index s.m) s.m s.piece s.offset s.value s.stands in
      subst (λ (a : ℕ). CodeAt ms places s.index s.piece a) s.at (code_at s.index s.piece s.offset c.0 s.m s.is_there c.1)

  one_value : (place : ℕ) (s t : StandsAt ms places place) → s.value ≡ t.value
  one_value place s t =
      let e = apart.apart s.index s.piece t.index t.piece (0x2000 + place) (stands_code place s) (stands_code place t) in
      let there : slice_get ms s.index ≡ Some t.m = rw (← e.0) at t.is_there in
      let m : s.m ≡ t.m = cc (s.is_there, there) in
      let b1 = base_same ms places s.index s.piece s.m in
      let b2 = base_same ms places t.index t.piece t.m in
      let b3 : base_at places.pieces s.index s.piece ≡ base_at places.pieces t.index t.piece = λ i. base_at places.pieces (e.0 i) (e.1 i) in
      let o : s.offset ≡ t.offset = omega (arith, s.at, t.at, b1, b2, b3) in
      let f : filled_at (bases_of ms places s.index s.m) s.m s.piece s.offset ≡ filled_at (bases_of ms places t.index t.m) t.m t.piece t.offset =
      λ i. filled_at (bases_of ms places (e.0 i) (m i)) (m i) (e.1 i) (o i) in
      cc (s.stands, f, t.stands)

  pub is_filled : (blank image : List ℕ) → length blank ≡ 0xE000 → ((place : ℕ) → place < 0xE000 → slice_get blank place ≡ Some 255) → image ≡ written blank (all_bytes ms (bases_from ms places 0 ms)) →
      IsFilled ms places image
  is_filled blank image long empty is = record {
    long = ap (λ (l : List ℕ). length l) is ∙ (written-long blank (all_bytes ms (bases_from ms places 0 ms)) ∙ long);
    within = λ i p o v m e f. let c = filled_content (bases_of ms places i m) m p o v f in (apart.within i p ((bases_of ms places i m).piece p + o) (code_at i p o c.0 m e c.1)).0;
    stands = λ place s.
        let w = apart.within s.index s.piece (0x2000 + place) (stands_code place s) in
        rw is (stand blank (all_bytes ms (bases_from ms places 0 ms)) place s.value (omega (arith, w.1, long)) (stands_has place s) (λ other h. let f = has_stands place other h in sym f.is ∙ one_value place f.s s));
    blank = λ place l none. rw is (elim (has_or_misses place (all_bytes ms (bases_from ms places 0 ms))) [
      | inl h ↦ absurd (none (has_stands place h.0 h.1).s)
      | inr k ↦ stay blank (all_bytes ms (bases_from ms places 0 ms)) place k ∙ empty place l
    ]);
  }
