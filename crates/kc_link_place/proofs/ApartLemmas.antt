-- No two code pieces have one address.
use Rattle.std.proofs.Common.{◌≡◌, ℕ, zero, suc, ◌+◌, ◌-◌, ◌<◌, ◌≤◌, Bool, true, false, List, [], ◌∷◌, ◌++◌, Option, Some, None, refl, sym, ap, ◌∙◌, subst, inl, inr, append_assoc, append-nil, arith}
use Rattle.std.specs.Prelude.{◌⊎◌, ◌&&◌, ◌||◌, ◌==◌, not, nat_le, if◌then◌else◌, slice_get, Result, Ok, Err}
use Rattle.std.specs.Option.{option_map}
use Rattle.std.specs.List.{list_all}
use Rattle.std.proofs.lemmas.Bool.{and_parts}
use Rattle.std.proofs.lemmas.Bool.Decides.{nat_tests}
use Rattle.kc_obj_module.specs.declared.parts.SegKind.{SegKind}
use Rattle.kc_obj_module.specs.declared.parts.SegKind.TheVariants.{Reg, Code, Ram, Stack}
use Rattle.kc_obj_module.specs.declared.parts.Segment.{Segment}
use Rattle.kc_obj_module.specs.Object.{Object}
use Rattle.kc_obj_module.specs.Pieces.{is_placed, based_well}
use Rattle.kc_link_place.specs.declared.ranges.Ranges.{Ranges}
use Rattle.kc_link_place.specs.declared.ranges.LinkFault.{LinkFault}
use Rattle.kc_link_place.specs.declared.ranges.LinkFault.TheVariants.{Unresolved, OverlapName, OverlapPlace}
use Rattle.kc_link_place.specs.declared.pieces.Piece.{Piece}
use Rattle.kc_link_place.specs.declared.pieces.Stand.{Stand}
use Rattle.kc_link_place.specs.Ranges.{are_in_bounds, lies_within, range_of, step_of}
use Rattle.kc_link_place.specs.Stands.{has, is_taken, how_many, leaves_room, least, least_free, piece_of, stand_at, same_kind, fixed_in, fixed_from, wanted_in, wanted_from, wanted}
use Rattle.kc_link_place.specs.Names.{unresolved, doubled}
use Rattle.kc_link_place.specs.Placing.{Places, overlap, put_all, is_at, put_at, place_of, places_in, places_from, places_with, stack_size, stack_at, with_stack, with_puts, unless, located, base_at}
use Rattle.kc_link_place.specs.Apart.{CodeAt, AllKeepRules, CodeIsApart, CodeStandsApart}
use Rattle.kc_link_place.proofs.FirstFit.{room_of_least, room-at}
use Rattle.kc_link_place.proofs.Covers.{free_is}
use Rattle.kc_link_place.specs.BaseLists.{or_0}
use Rattle.kc_link_place.proofs.Modules.{kept}

-- ---- how many pieces have an address

many-append : (ss : List Stand) (s : Stand) (a : ℕ) → how_many (ss ++ s ∷ []) a ≡ how_many ss a + (if has s a then 1 else 0)
many-append [] s a = by (has s a)
  where
    by : (t : Bool) → (if t then 1 + 0 else 0) ≡ 0 + (if t then 1 else 0)
    by true = refl
    by false = refl
many-append (x ∷ ss) s a = by (has x a) (many-append ss s a)
  where
    by : (t : Bool) → how_many (ss ++ s ∷ []) a ≡ how_many ss a + (if has s a then 1 else 0) → (if t then 1 + how_many (ss ++ s ∷ []) a else how_many (ss ++ s ∷ []) a) ≡ (if t then 1 + how_many ss a else how_many ss a) + (if has s a then 1 else 0)
    by true h = omega (arith, h)
    by false h = h

none-taken : (ss : List Stand) (a : ℕ) → is_taken ss a ≡ false → how_many ss a ≡ 0
none-taken ss a h = let e : (how_many ss a == 0) ≡ not (is_taken ss a) = free_is ss a in let f : (how_many ss a == 0) ≡ true = rw h at e in grind (arith, nat_tests, f)

-- one more piece, where there is room
one-more : (taken : List Stand) (s : Stand) (a : ℕ) → leaves_room taken s.at s.piece.size ≡ true → how_many taken a ≤ 1 → how_many (taken ++ s ∷ []) a ≤ 1
one-more taken s a room h = by (has s a) refl
  where
    by : (t : Bool) → has s a ≡ t → how_many (taken ++ s ∷ []) a ≤ 1
    by false e = let m : how_many (taken ++ s ∷ []) a ≡ how_many taken a + 0 = rw e at (many-append taken s a) in omega (arith, m, h)
    by true e =
        let m : how_many (taken ++ s ∷ []) a ≡ how_many taken a + 1 = rw e at (many-append taken s a) in
        let l : s.at ≤ a = grind (arith, nat_tests, e) in
        let g : a < s.at + s.piece.size = grind (arith, nat_tests, e) in
        let q : s.at + (a - s.at) ≡ a = omega (arith, l) in
        let f : is_taken taken a ≡ false = subst (λ (n : ℕ). is_taken taken n ≡ false) q (room-at taken s.piece.size s.at (a - s.at) room (omega (arith, l, g))) in
        omega (arith, m, none-taken taken a f)

least-none-all : (p : ℕ → Bool) (n from b : ℕ) → least p n from ≡ None → from ≤ b → b < from + n → p b ≡ false
unfolding least
least-none-all p zero from b e l m = absurd (omega (arith, l, m))
least-none-all p (suc n) from b e l m = by (p from) refl e (same-or-below from b l) (λ f s. least-none-all p n (from + 1) b f (omega (arith, s)) (omega (arith, m)))
  where
    same-or-below : (m n : ℕ) → m ≤ n → (m ≡ n) ⊎ (m < n)
    same-or-below zero zero h = inl refl
    same-or-below zero (suc n) h = inr (omega arith)
    same-or-below (suc m) zero h = absurd (omega arith)
    same-or-below (suc m) (suc n) h = elim (same-or-below m n (omega arith)) [ inl e ↦ inl (omega (arith, e)) | inr e ↦ inr (omega (arith, e)) ]

    by : (t : Bool) → p from ≡ t → (if t then Some from else least p n (from + 1)) ≡ None → (from ≡ b) ⊎ (from < b) → (least p n (from + 1) ≡ None → from < b → p b ≡ false) → p b ≡ false
    by true q f c go = absurd (cc f)
    by false q f (inl s) go = subst (λ (x : ℕ). p x ≡ false) s q
    by false q f (inr s) go = go f s

fixed-once : (ss : List Stand) (a : ℕ) → overlap ss ≡ None → 0x1A ≤ a → a < 65536 → how_many ss a ≤ 1
unfolding overlap
fixed-once ss a e l m =
    let f : nat_le 2 (how_many ss a) ≡ false = least-none-all (λ b. nat_le 2 (how_many ss b)) 0xFFE6 0x1A a e l (omega (arith, m)) in
    grind (arith, nat_tests, f)

-- ---- what holds of each piece that is put

abbrev AllPieces : (Piece → Type 0) → List Piece → Type 0
AllPieces P [] = Unit {0}
AllPieces P (p ∷ ps) = P p × AllPieces P ps

abbrev AllStands : (Stand → Type 0) → List Stand → Type 0
AllStands P [] = Unit {0}
AllStands P (s ∷ ss) = P s × AllStands P ss

all-push : (P : Stand → Type 0) (ss : List Stand) (s : Stand) → AllStands P ss → P s → AllStands P (ss ++ s ∷ [])
all-push P [] s h p = (p, tt)
all-push P (x ∷ ss) s h p = (h.0, all-push P ss s h.1 p)

all-append : (P : Piece → Type 0) (ps qs : List Piece) → AllPieces P ps → AllPieces P qs → AllPieces P (ps ++ qs)
all-append P [] qs h k = k
all-append P (p ∷ ps) qs h k = (h.0, all-append P ps qs h.1 k)

-- it is a piece of the modules
record IsPiece (ms : List Object) (p : Piece) : Type 0 where
  m : Object
  is_there : slice_get ms p.index ≡ Some m
  segment : Segment
  in_module : slice_get m.segments p.number ≡ Some segment
  kind_is : p.kind ≡ segment.kind
  size_is : p.size ≡ segment.length

-- it stands in the range of its kind
record IsGood (ms : List Object) (ranges : Ranges) (s : Stand) : Type 0 where
  piece : IsPiece ms s.piece
  low : (range_of ranges s.piece.kind).0 ≤ s.at
  high : s.at + s.piece.size ≤ (range_of ranges s.piece.kind).1 + 1

abbrev HasKey : ℕ → ℕ → List Stand → Type 0
HasKey i p [] = ⊥
HasKey i p (s ∷ ss) = ((s.piece.index ≡ i) × (s.piece.number ≡ p)) ⊎ HasKey i p ss

abbrev Wants : ℕ → ℕ → List Piece → Type 0
Wants i p [] = ⊥
Wants i p (q ∷ qs) = ((q.index ≡ i) × (q.number ≡ p)) ⊎ Wants i p qs

key-push : (i p : ℕ) (ss : List Stand) (s : Stand) → HasKey i p ss → HasKey i p (ss ++ s ∷ [])
key-push i p [] s h = absurd h
key-push i p (x ∷ ss) s (inl h) = inl h
key-push i p (x ∷ ss) s (inr h) = inr (key-push i p ss s h)

key-last : (i p : ℕ) (ss : List Stand) (s : Stand) → s.piece.index ≡ i → s.piece.number ≡ p → HasKey i p (ss ++ s ∷ [])
key-last i p [] s e f = inl (e, f)
key-last i p (x ∷ ss) s e f = inr (key-last i p ss s e f)

wants-left : (i p : ℕ) (ps qs : List Piece) → Wants i p ps → Wants i p (ps ++ qs)
wants-left i p [] qs h = absurd h
wants-left i p (x ∷ ps) qs (inl h) = inl h
wants-left i p (x ∷ ps) qs (inr h) = inr (wants-left i p ps qs h)

wants-right : (i p : ℕ) (ps qs : List Piece) → Wants i p qs → Wants i p (ps ++ qs)
wants-right i p [] qs h = h
wants-right i p (x ∷ ps) qs h = inr (wants-right i p ps qs h)

module _ (ms : List Object) (ranges : Ranges) (fixed : List Stand) where
  record ArePlaced (ps : List Piece) (before puts : List Stand) : Type 0 where
    once : (a : ℕ) → how_many (fixed ++ before) a ≤ 1 → how_many (fixed ++ puts) a ≤ 1
    good : AllStands (IsGood ms ranges) puts
    keys : (i p : ℕ) → HasKey i p before → HasKey i p puts
    given : (i p : ℕ) → Wants i p ps → HasKey i p puts

  placed : (ps : List Piece) (before puts : List Stand) → AllPieces (IsPiece ms) ps → AllStands (IsGood ms ranges) before → put_all ranges fixed before ps ≡ Ok puts → ArePlaced ps before puts
  unfolding put_all
  placed [] before puts w g e =
      let f : before ≡ puts = cc e in
      record {
        once = λ a h. subst (λ (l : List Stand). how_many (fixed ++ l) a ≤ 1) f h;
        good = subst (λ (l : List Stand). AllStands (IsGood ms ranges) l) f g;
        keys = λ i p h. subst (λ (l : List Stand). HasKey i p l) f h;
        given = λ i p h. absurd h;
      }
  placed (x ∷ ps) before puts w g e = by (least_free (fixed ++ before) (range_of ranges x.kind) (step_of x.kind) x.size) refl e (λ at h f. placed ps (before ++ stand_at x at ∷ []) puts w.1 h f)
    where
      step : (at : ℕ) → least_free (fixed ++ before) (range_of ranges x.kind) (step_of x.kind) x.size ≡ Some at → ArePlaced ps (before ++ stand_at x at ∷ []) puts → ArePlaced (x ∷ ps) before puts
      step at q r =
          let room = room_of_least (fixed ++ before) (range_of ranges x.kind).0 (range_of ranges x.kind).1 (step_of x.kind) x.size at q in
          record {
            once = λ a h. r.once a (subst (λ (l : List Stand). how_many l a ≤ 1) (append_assoc fixed before (stand_at x at ∷ [])) (one-more (fixed ++ before) (stand_at x at) a room.room h));
            good = r.good;
            keys = λ i p h. r.keys i p (key-push i p before (stand_at x at) h);
            given = λ i p h. elim h [ inl k ↦ r.keys i p (key-last i p before (stand_at x at) k.0 k.1) | inr k ↦ r.given i p k ];
          }

      good_one : (at : ℕ) → least_free (fixed ++ before) (range_of ranges x.kind) (step_of x.kind) x.size ≡ Some at → AllStands (IsGood ms ranges) (before ++ stand_at x at ∷ [])
      good_one at q =
          let room = room_of_least (fixed ++ before) (range_of ranges x.kind).0 (range_of ranges x.kind).1 (step_of x.kind) x.size at q in
          all-push (IsGood ms ranges) before (stand_at x at) g (record { piece = w.0; low = room.above; high = room.fits })

      by : (o : Option ℕ) → least_free (fixed ++ before) (range_of ranges x.kind) (step_of x.kind) x.size ≡ o →
          elim o as (λ _. Result (List Stand) Piece) [ None ↦ Err x | Some a ↦ put_all ranges fixed (before ++ stand_at x a ∷ []) ps ] ≡ Ok puts →
          ((at : ℕ) → AllStands (IsGood ms ranges) (before ++ stand_at x at ∷ []) → put_all ranges fixed (before ++ stand_at x at ∷ []) ps ≡ Ok puts → ArePlaced ps (before ++ stand_at x at ∷ []) puts) → ArePlaced (x ∷ ps) before puts
      by None q f go = absurd (cc f)
      by (Some at) q f go = step at q (go at (good_one at q) f)

-- ---- the pieces that are wanted are pieces of the modules, and all of them

at-suc : (n i k : ℕ) → n + suc i ≡ k → (n + 1) + i ≡ k
at-suc n i k e = omega (arith, e)

segment-later : {X : Type 0} (xs : List X) (x y : X) (n k : ℕ) → n + 1 ≤ k → ((i : ℕ) → n + i ≡ k → slice_get (x ∷ xs) i ≡ Some y) → (i : ℕ) → (n + 1) + i ≡ k → slice_get xs i ≡ Some y
segment-later xs x y n k l h i e = h (suc i) (omega (arith, e))

wanted-in : (ms : List Object) (index : ℕ) (m : Object) → slice_get ms index ≡ Some m → (kind : SegKind) (n : ℕ) (ss : List Segment) → ((i : ℕ) (s : Segment) → slice_get ss i ≡ Some s → slice_get m.segments (n + i) ≡ Some s) →
    AllPieces (IsPiece ms) (wanted_in kind index n ss)
unfolding wanted_in
wanted-in ms index m there kind n [] h = tt
wanted-in ms index m there kind n (s ∷ ss) h =
    by s.at (same_kind kind s.kind) (wanted-in ms index m there kind (n + 1) ss (λ i t e. let q : (n + 1) + i ≡ n + suc i = omega arith in rw q (h (suc i) t e)))
  where
    here : slice_get m.segments n ≡ Some s
    here = let q : n + 0 ≡ n = omega arith in rw q at (h 0 s refl)

    by : (o : Option ℕ) (t : Bool) → AllPieces (IsPiece ms) (wanted_in kind index (n + 1) ss) →
        AllPieces (IsPiece ms) (elim o as (λ _. List Piece) [ None ↦ (if t then piece_of index n s ∷ wanted_in kind index (n + 1) ss else wanted_in kind index (n + 1) ss) | Some a ↦ wanted_in kind index (n + 1) ss ])
    by None true g = (record { m = m; is_there = there; segment = s; in_module = here; kind_is = refl; size_is = refl }, g)
    by None false g = g
    by (Some a) t g = g

wanted-from : (ms : List Object) (kind : SegKind) (n : ℕ) (left : List Object) → ((i : ℕ) (m : Object) → slice_get left i ≡ Some m → slice_get ms (n + i) ≡ Some m) → AllPieces (IsPiece ms) (wanted_from kind n left)
unfolding wanted_from
wanted-from ms kind n [] h = tt
wanted-from ms kind n (m ∷ left) h =
    let here : slice_get ms n ≡ Some m = (let q : n + 0 ≡ n = omega arith in rw q at (h 0 m refl)) in
    all-append (IsPiece ms) (wanted_in kind n 0 m.segments) (wanted_from kind (n + 1) left)
    (wanted-in ms n m here kind 0 m.segments (λ i s e. let q : 0 + i ≡ i = omega arith in rw q e))
    (wanted-from ms kind (n + 1) left (λ i t e. let q : (n + 1) + i ≡ n + suc i = omega arith in rw q (h (suc i) t e)))

all-wanted : (ms : List Object) → AllPieces (IsPiece ms) (wanted ms)
all-wanted ms =
    let h : (i : ℕ) (m : Object) → slice_get ms i ≡ Some m → slice_get ms (0 + i) ≡ Some m = λ i m e. let q : 0 + i ≡ i = omega arith in rw q e in
    all-append (IsPiece ms) (wanted_from Reg 0 ms) (wanted_from Code 0 ms ++ wanted_from Ram 0 ms) (wanted-from ms Reg 0 ms h)
    (all-append (IsPiece ms) (wanted_from Code 0 ms) (wanted_from Ram 0 ms) (wanted-from ms Code 0 ms h) (wanted-from ms Ram 0 ms h))

wants-in : (index n p : ℕ) (ss : List Segment) (k : ℕ) (s : Segment) → slice_get ss k ≡ Some s → n + k ≡ p → s.at ≡ None → s.kind ≡ Code → Wants index p (wanted_in Code index n ss)
unfolding wanted_in
wants-in index n p [] k s e q a c = absurd (cc e)
wants-in index n p (x ∷ ss) zero s e q a c =
    let f : x ≡ s = cc e in
    let at : x.at ≡ None = rw f a in
    let kind : x.kind ≡ Code = rw f c in
    rw (at, kind) (inl (refl, omega (arith, q)))
wants-in index n p (x ∷ ss) (suc k) s e q a c = by x.at (same_kind Code x.kind) (wants-in index (n + 1) p ss k s e (at-suc n k p q) a c)
  where
    by : (o : Option ℕ) (t : Bool) → Wants index p (wanted_in Code index (n + 1) ss) →
        Wants index p (elim o as (λ _. List Piece) [ None ↦ (if t then piece_of index n x ∷ wanted_in Code index (n + 1) ss else wanted_in Code index (n + 1) ss) | Some a ↦ wanted_in Code index (n + 1) ss ])
    by None true g = inr g
    by None false g = g
    by (Some a) t g = g

wants-from : (n i p : ℕ) (left : List Object) (k : ℕ) (m : Object) (s : Segment) → slice_get left k ≡ Some m → n + k ≡ i → slice_get m.segments p ≡ Some s → s.at ≡ None → s.kind ≡ Code → Wants i p (wanted_from Code n left)
unfolding wanted_from
wants-from n i p [] k m s e q g a c = absurd (cc e)
wants-from n i p (x ∷ left) zero m s e q g a c =
    let f : x ≡ m = cc e in
    let r : n ≡ i = omega (arith, q) in
    let h : slice_get x.segments p ≡ Some s = rw f g in
    wants-left i p (wanted_in Code n 0 x.segments) (wanted_from Code (n + 1) left) (subst (λ (j : ℕ). Wants j p (wanted_in Code n 0 x.segments)) r (wants-in n 0 p x.segments p s h (omega arith) a c))
wants-from n i p (x ∷ left) (suc k) m s e q g a c = wants-right i p (wanted_in Code n 0 x.segments) (wanted_from Code (n + 1) left) (wants-from (n + 1) i p left k m s e (at-suc n k i q) g a c)

-- ---- the entry of a piece among all that stand

abbrev Holds : ℕ → ℕ → ℕ → ℕ → List Stand → Type 0
Holds i p at size [] = ⊥
Holds i p at size (s ∷ ss) = ((s.piece.index ≡ i) × (s.piece.number ≡ p) × (s.at ≡ at) × (s.piece.size ≡ size)) ⊎ Holds i p at size ss

holds-left : (i p at size : ℕ) (ss ts : List Stand) → Holds i p at size ss → Holds i p at size (ss ++ ts)
holds-left i p at size [] ts h = absurd h
holds-left i p at size (s ∷ ss) ts (inl h) = inl h
holds-left i p at size (s ∷ ss) ts (inr h) = inr (holds-left i p at size ss ts h)

holds-right : (i p at size : ℕ) (ss ts : List Stand) → Holds i p at size ts → Holds i p at size (ss ++ ts)
holds-right i p at size [] ts h = h
holds-right i p at size (s ∷ ss) ts h = inr (holds-right i p at size ss ts h)

has-it : (s : Stand) (at size a : ℕ) → s.at ≡ at → s.piece.size ≡ size → at ≤ a → a < at + size → has s a ≡ true
has-it s at size a e f l m = grind (arith, nat_tests, e, f, l, m)

one-holds : (i p at size a : ℕ) (ss : List Stand) → Holds i p at size ss → at ≤ a → a < at + size → 1 ≤ how_many ss a
one-holds i p at size a [] h l m = absurd h
one-holds i p at size a (s ∷ ss) (inl h) l m = rw (has-it s at size a h.2 h.3 l m) (omega arith)
one-holds i p at size a (s ∷ ss) (inr h) l m = by (has s a) (one-holds i p at size a ss h l m)
  where
    by : (t : Bool) → 1 ≤ how_many ss a → 1 ≤ (if t then 1 + how_many ss a else how_many ss a)
    by true g = omega arith
    by false g = g

two-hold : (i p at size j q at2 size2 a : ℕ) (ss : List Stand) → Holds i p at size ss → Holds j q at2 size2 ss → at ≤ a → a < at + size → at2 ≤ a → a < at2 + size2 → ((i ≡ j) × (p ≡ q)) ⊎ (2 ≤ how_many ss a)
two-hold i p at size j q at2 size2 a [] h k l m l2 m2 = absurd h
two-hold i p at size j q at2 size2 a (s ∷ ss) (inl h) (inl k) l m l2 m2 = inl (omega (arith, h.0, k.0), omega (arith, h.1, k.1))
two-hold i p at size j q at2 size2 a (s ∷ ss) (inl h) (inr k) l m l2 m2 =
    let o = one-holds j q at2 size2 a ss k l2 m2 in
    inr (rw (has-it s at size a h.2 h.3 l m) (omega (arith, o)))
two-hold i p at size j q at2 size2 a (s ∷ ss) (inr h) (inl k) l m l2 m2 =
    let o = one-holds i p at size a ss h l m in
    inr (rw (has-it s at2 size2 a k.2 k.3 l2 m2) (omega (arith, o)))
two-hold i p at size j q at2 size2 a (s ∷ ss) (inr h) (inr k) l m l2 m2 =
    elim (two-hold i p at size j q at2 size2 a ss h k l m l2 m2) [ inl e ↦ inl e | inr o ↦ inr (more (has s a) o) ]
  where
    more : (t : Bool) → 2 ≤ how_many ss a → 2 ≤ (if t then 1 + how_many ss a else how_many ss a)
    more true g = omega (arith, g)
    more false g = g

fixed-in : (index n p : ℕ) (ss : List Segment) (k at : ℕ) (s : Segment) → slice_get ss k ≡ Some s → n + k ≡ p → s.at ≡ Some at → Holds index p at s.length (fixed_in index n ss)
unfolding fixed_in
fixed-in index n p [] k at s e q a = absurd (cc e)
fixed-in index n p (x ∷ ss) zero at s e q a =
    let f : x ≡ s = cc e in
    let g : x.at ≡ Some at = rw f a in
    rw g (inl (refl, omega (arith, q), refl, ap (λ (y : Segment). y.length) f))
fixed-in index n p (x ∷ ss) (suc k) at s e q a = by x.at (fixed-in index (n + 1) p ss k at s e (at-suc n k p q) a)
  where
    by : (o : Option ℕ) → Holds index p at s.length (fixed_in index (n + 1) ss) →
        Holds index p at s.length (elim o as (λ _. List Stand) [ None ↦ fixed_in index (n + 1) ss | Some b ↦ stand_at (piece_of index n x) b ∷ fixed_in index (n + 1) ss ])
    by None g = g
    by (Some b) g = inr g

fixed-from : (n i p : ℕ) (left : List Object) (k at : ℕ) (m : Object) (s : Segment) → slice_get left k ≡ Some m → n + k ≡ i → slice_get m.segments p ≡ Some s → s.at ≡ Some at → Holds i p at s.length (fixed_from n left)
unfolding fixed_from
fixed-from n i p [] k at m s e q g a = absurd (cc e)
fixed-from n i p (x ∷ left) zero at m s e q g a =
    let f : x ≡ m = cc e in
    let r : n ≡ i = omega (arith, q) in
    let h : slice_get x.segments p ≡ Some s = rw f g in
    holds-left i p at s.length (fixed_in n 0 x.segments) (fixed_from (n + 1) left) (subst (λ (j : ℕ). Holds j p at s.length (fixed_in n 0 x.segments)) r (fixed-in n 0 p x.segments p at s h (omega arith) a))
fixed-from n i p (x ∷ left) (suc k) at m s e q g a = holds-right i p at s.length (fixed_in n 0 x.segments) (fixed_from (n + 1) left) (fixed-from (n + 1) i p left k at m s e (at-suc n k i q) g a)

both-same : (a b c d : ℕ) → ((a == b) && (c == d)) ≡ true → (a ≡ b) × (c ≡ d)
both-same a b c d e = (grind (arith, nat_tests, e), grind (arith, nat_tests, e))

not-same : (a b c d : ℕ) → ((a == b) && (c == d)) ≡ false → (a ≡ b) × (c ≡ d) → ⊥
not-same a b c d e h = grind (arith, nat_tests, e, h.0, h.1)

record PutAt (ms : List Object) (ranges : Ranges) (i p : ℕ) (s : Segment) (ss : List Stand) : Type 0 where
  holds : Holds i p (put_at ss i p) s.length ss
  low : (range_of ranges s.kind).0 ≤ put_at ss i p
  high : put_at ss i p + s.length ≤ (range_of ranges s.kind).1 + 1

same-segment : (ms : List Object) (i p : ℕ) (m : Object) (s : Segment) (x : Piece) → slice_get ms i ≡ Some m → slice_get m.segments p ≡ Some s → IsPiece ms x → x.index ≡ i → x.number ≡ p → (x.kind ≡ s.kind) × (x.size ≡ s.length)
same-segment ms i p m s x there in_it h e f =
    let a : slice_get ms i ≡ Some h.m = rw e at h.is_there in
    let b : h.m ≡ m = cc (a, there) in
    let c : slice_get h.m.segments p ≡ Some h.segment = rw f at h.in_module in
    let d : slice_get m.segments p ≡ Some h.segment = rw b at c in
    let g : h.segment ≡ s = cc (d, in_it) in
    (h.kind_is ∙ ap (λ (y : Segment). y.kind) g, h.size_is ∙ ap (λ (y : Segment). y.length) g)

put-here : (x : Stand) (ss : List Stand) (i p : ℕ) → is_at x i p ≡ true → put_at (x ∷ ss) i p ≡ x.at
unfolding put_at
put-here x ss i p e = rw e refl

put-later : (x : Stand) (ss : List Stand) (i p : ℕ) → is_at x i p ≡ false → put_at (x ∷ ss) i p ≡ put_at ss i p
unfolding put_at
put-later x ss i p e = rw e refl

put-there : (ms : List Object) (ranges : Ranges) (i p : ℕ) (m : Object) (s : Segment) → slice_get ms i ≡ Some m → slice_get m.segments p ≡ Some s → (ss : List Stand) → AllStands (IsGood ms ranges) ss → HasKey i p ss → PutAt ms ranges i p s ss
put-there ms ranges i p m s there in_it [] g k = absurd k
put-there ms ranges i p m s there in_it (x ∷ ss) g k = by (is_at x i p) refl k (put-there ms ranges i p m s there in_it ss g.1)
  where
    found : is_at x i p ≡ true → PutAt ms ranges i p s (x ∷ ss)
    found e =
        let q = both-same x.piece.index i x.piece.number p e in
        let h = same-segment ms i p m s x.piece there in_it g.0.piece q.0 q.1 in
        let at : put_at (x ∷ ss) i p ≡ x.at = put-here x ss i p e in
        let low : (range_of ranges s.kind).0 ≤ x.at = subst (λ (kd : SegKind). (range_of ranges kd).0 ≤ x.at) h.0 g.0.low in
        let high : x.at + x.piece.size ≤ (range_of ranges s.kind).1 + 1 = subst (λ (kd : SegKind). x.at + x.piece.size ≤ (range_of ranges kd).1 + 1) h.0 g.0.high in
        record {
          holds = subst (λ (n : ℕ). Holds i p n s.length (x ∷ ss)) (sym at) (inl (q.0, q.1, refl, h.1));
          low = omega (arith, at, low);
          high = omega (arith, at, high, h.1);
        }

    later : is_at x i p ≡ false → PutAt ms ranges i p s ss → PutAt ms ranges i p s (x ∷ ss)
    later e r =
        let at : put_at (x ∷ ss) i p ≡ put_at ss i p = put-later x ss i p e in
        record {
          holds = subst (λ (n : ℕ). Holds i p n s.length (x ∷ ss)) (sym at) (inr r.holds);
          low = omega (arith, at, r.low);
          high = omega (arith, at, r.high);
        }

    by : (t : Bool) → is_at x i p ≡ t → ((x.piece.index ≡ i) × (x.piece.number ≡ p)) ⊎ HasKey i p ss → (HasKey i p ss → PutAt ms ranges i p s ss) → PutAt ms ranges i p s (x ∷ ss)
    by true e h go = found e
    by false e (inl h) go = absurd (not-same x.piece.index i x.piece.number p e h)
    by false e (inr h) go = later e (go h)

-- ---- the places

places-in : (puts : List Stand) (stack index n : ℕ) (ss : List Segment) (k p : ℕ) (s : Segment) → slice_get ss k ≡ Some s → n + k ≡ p → slice_get (places_in puts stack index n ss) k ≡ Some (place_of puts stack index p s)
unfolding places_in
places-in puts stack index n [] k p s e q = absurd (cc e)
places-in puts stack index n (x ∷ ss) zero p s e q = let f : x ≡ s = cc e in let r : n ≡ p = omega (arith, q) in rw (f, r) refl
places-in puts stack index n (x ∷ ss) (suc k) p s e q = places-in puts stack index (n + 1) ss k p s e (at-suc n k p q)

places-from : (puts : List Stand) (stack n : ℕ) (left : List Object) (k i : ℕ) (m : Object) → slice_get left k ≡ Some m → n + k ≡ i → slice_get (places_from puts stack n left) k ≡ Some (places_in puts stack i 0 m.segments)
unfolding places_from
places-from puts stack n [] k i m e q = absurd (cc e)
places-from puts stack n (x ∷ left) zero i m e q = let f : x ≡ m = cc e in let r : n ≡ i = omega (arith, q) in rw (f, r) refl
places-from puts stack n (x ∷ left) (suc k) i m e q = places-from puts stack (n + 1) left k i m e (at-suc n k i q)

pub base-is : (puts : List Stand) (stack : ℕ) (ms : List Object) (i p : ℕ) (m : Object) (s : Segment) → slice_get ms i ≡ Some m → slice_get m.segments p ≡ Some s → base_at (places_from puts stack 0 ms) i p ≡ place_of puts stack i p s
unfolding base_at
base-is puts stack ms i p m s e f =
    ap (λ (o : Option (List ℕ)). or_0 (slice_get (elim o as (λ _. List ℕ) [ None ↦ [] | Some l ↦ l ]) p)) (places-from puts stack 0 ms i i m e (omega arith))
    ∙ ap or_0 (places-in puts stack i 0 m.segments p p s f (omega arith))

pub record IsLocatedBy (ms : List Object) (ranges : Ranges) (places : Places) : Type 0 where
  pub puts : List Stand
  pub stack : ℕ
  pub is : places.pieces ≡ places_from puts stack 0 ms
  pub apart : overlap (fixed_from 0 ms) ≡ None
  pub put : put_all ranges (fixed_from 0 ms) [] (wanted ms) ≡ Ok puts

unless-ok : (o : Option LinkFault) (r : Result Places LinkFault) (places : Places) → unless o r ≡ Ok places → (o ≡ None) × (r ≡ Ok places)
unless-ok None r places e = (refl, e)
unless-ok (Some f) r places e = absurd (cc e)

no-overlap : (o : Option ℕ) → option_map OverlapPlace o ≡ None → o ≡ None
no-overlap None e = refl
no-overlap (Some a) e = absurd (cc e)

stack-ok : (ms : List Object) (puts : List Stand) (size : ℕ) (o : Option ℕ) (places : Places) → with_stack ms puts size o ≡ Ok places → (stack : ℕ) × (places.pieces ≡ places_from puts stack 0 ms)
stack-ok ms puts size None places e = absurd (cc e)
stack-ok ms puts size (Some stack) places e =
    let f : places_with ms puts size stack ≡ places = cc e in
    (stack, sym (ap (λ (p : Places). p.pieces) f))

puts-ok : (ms : List Object) (ranges : Ranges) (r : Result (List Stand) Piece) (places : Places) → with_puts ms ranges r ≡ Ok places → (puts : List Stand) × ((r ≡ Ok puts) × ((stack : ℕ) × (places.pieces ≡ places_from puts stack 0 ms)))
puts-ok ms ranges (Err p) places e = absurd (cc e)
puts-ok ms ranges (Ok puts) places e = (puts, (refl, stack-ok ms puts (stack_size ranges ms) (stack_at (stack_size ranges ms) (least_free (fixed_from 0 ms ++ puts) (range_of ranges Stack) 2 (stack_size ranges ms))) places e))

pub located-by : (ms : List Object) (ranges : Ranges) (places : Places) → located ms ranges ≡ Ok places → IsLocatedBy ms ranges places
unfolding located
located-by ms ranges places e =
    let a = unless-ok (option_map Unresolved (unresolved ms (stack_size ranges ms) ms)) _ places e in
    let b = unless-ok (option_map OverlapName (doubled ms 0 ms)) _ places a.1 in
    let c = unless-ok (option_map OverlapPlace (overlap (fixed_from 0 ms))) _ places b.1 in
    let d = puts-ok ms ranges (put_all ranges (fixed_from 0 ms) [] (wanted ms)) places c.1 in
    record { puts = d.0; stack = d.1.1.0; is = d.1.1.1; apart = no-overlap (overlap (fixed_from 0 ms)) c.0; put = d.1.0 }

-- ---- together

each : (ss : List Segment) (p : ℕ) (s : Segment) → list_all is_placed ss ≡ true → slice_get ss p ≡ Some s → is_placed s ≡ true
each [] p s h e = absurd (cc e)
each (x ∷ ss) zero s h e = let f : x ≡ s = cc e in rw (← f) (and_parts (is_placed x) (list_all is_placed ss) h).0
each (x ∷ ss) (suc p) s h e = each ss p s (and_parts (is_placed x) (list_all is_placed ss) h).1 e

code-fixed : (len at : ℕ) → based_well Code len (Some at) ≡ true → (0x2000 ≤ at) × (at + len ≤ 65536)
code-fixed len at h = (grind (arith, nat_tests, h), grind (arith, nat_tests, h))

code-range : (ranges : Ranges) → are_in_bounds ranges ≡ true → (0x2000 ≤ (range_of ranges Code).0) × ((range_of ranges Code).1 < 65536)
code-range ranges h =
    let a = and_parts (lies_within 0x1A 0x1FF ranges.reg && lies_within 0x2000 0xFFFF ranges.code) (lies_within 0x200 0x1FFD ranges.ram || lies_within 0x6000 0xFFFF ranges.ram) h in
    let b : lies_within 0x2000 0xFFFF ranges.code ≡ true = (and_parts (lies_within 0x1A 0x1FF ranges.reg) (lies_within 0x2000 0xFFFF ranges.code) a.0).1 in
    (grind (arith, nat_tests, b), grind (arith, nat_tests, b))

module _ (ms : List Object) (ranges : Ranges) (places : Places) (rules : AllKeepRules ms) (bounds : are_in_bounds ranges ≡ true) (by_puts : IsLocatedBy ms ranges places) where
  record Stands (i p base size : ℕ) : Type 0 where
    holds : Holds i p base size (fixed_from 0 ms ++ by_puts.puts)
    low : 0x2000 ≤ base
    high : base + size ≤ 65536

  all-put : ArePlaced ms ranges (fixed_from 0 ms) (wanted ms) [] by_puts.puts
  all-put = placed ms ranges (fixed_from 0 ms) (wanted ms) [] by_puts.puts (all-wanted ms) tt by_puts.put

  code-wanted : (i p : ℕ) (m : Object) (s : Segment) → slice_get ms i ≡ Some m → slice_get m.segments p ≡ Some s → s.at ≡ None → s.kind ≡ Code → Wants i p (wanted ms)
  code-wanted i p m s e f a c =
      wants-right i p (wanted_from Reg 0 ms) (wanted_from Code 0 ms ++ wanted_from Ram 0 ms)
      (wants-left i p (wanted_from Code 0 ms) (wanted_from Ram 0 ms) (wants-from 0 i p ms i m s e (omega arith) f a c))

  piece-stands : (i p : ℕ) (m : Object) (s : Segment) → slice_get ms i ≡ Some m → slice_get m.segments p ≡ Some s → s.kind ≡ Code → Stands i p (base_at places.pieces i p) s.length
  piece-stands i p m s e f c = by s.at refl
    where
      base : base_at places.pieces i p ≡ place_of by_puts.puts by_puts.stack i p s
      base = ap (λ (l : List (List ℕ)). base_at l i p) by_puts.is ∙ base-is by_puts.puts by_puts.stack ms i p m s e f

      at_base : (at : ℕ) → place_of by_puts.puts by_puts.stack i p s ≡ at → Stands i p at s.length → Stands i p (base_at places.pieces i p) s.length
      at_base at g h = subst (λ (n : ℕ). Stands i p n s.length) (sym (base ∙ g)) h

      by : (o : Option ℕ) → s.at ≡ o → Stands i p (base_at places.pieces i p) s.length
      by (Some at) g =
          let is : place_of by_puts.puts by_puts.stack i p s ≡ at = rw g refl in
          let ok : is_placed s ≡ true = each m.segments p s (kept m (rules i m e)).placed f in
          let in_code : based_well Code s.length (Some at) ≡ true = rw (c, g) at ok in
          let r = code-fixed s.length at in_code in
          at_base at is (record {
            holds = holds-left i p at s.length (fixed_from 0 ms) by_puts.puts (fixed-from 0 i p ms i at m s e (omega arith) f g);
            low = r.0;
            high = r.1;
          })
      by None g =
          let is : place_of by_puts.puts by_puts.stack i p s ≡ put_at by_puts.puts i p = rw (g, c) refl in
          let there = put-there ms ranges i p m s e f by_puts.puts all-put.good (all-put.given i p (code-wanted i p m s e f g c)) in
          let r = code-range ranges bounds in
          let low : (range_of ranges Code).0 ≤ put_at by_puts.puts i p = rw c at there.low in
          let high : put_at by_puts.puts i p + s.length ≤ (range_of ranges Code).1 + 1 = rw c at there.high in
          at_base (put_at by_puts.puts i p) is (record {
            holds = holds-right i p (put_at by_puts.puts i p) s.length (fixed_from 0 ms) by_puts.puts there.holds;
            low = omega (arith, low, r.0);
            high = omega (arith, high, r.1);
          })

  code-stands : (i p a : ℕ) → (c : CodeAt ms places i p a) → Stands i p (base_at places.pieces i p) c.segment.length
  code-stands i p a c = piece-stands i p c.m c.segment c.is_there c.in_module c.is_code

  within-it : (i p a : ℕ) → CodeAt ms places i p a → (0x2000 ≤ a) × (a < 65536)
  within-it i p a c = let s = code-stands i p a c in (omega (arith, s.low, c.from), omega (arith, s.high, c.to))

  nothing-fixed : (a : ℕ) → how_many (fixed_from 0 ms) a ≤ 1 → how_many (fixed_from 0 ms ++ []) a ≤ 1
  nothing-fixed a h = rw append-nil h

  pub together : CodeIsApart ms places
  together = record {
    within = within-it;
    apart = λ i p j q a c d.
        let s = code-stands i p a c in
        let t = code-stands j q a d in
        let w = within-it i p a c in
        let once : how_many (fixed_from 0 ms ++ by_puts.puts) a ≤ 1 = all-put.once a (nothing-fixed a (fixed-once (fixed_from 0 ms) a by_puts.apart (omega (arith, w.0)) w.1)) in
        elim (two-hold i p (base_at places.pieces i p) c.segment.length j q (base_at places.pieces j q) d.segment.length a (fixed_from 0 ms ++ by_puts.puts) s.holds t.holds c.from c.to d.from d.to) [
          | inl e ↦ e
          | inr two ↦ absurd (omega (arith, two, once))
        ];
  }

pub code_stands_apart : CodeStandsApart
code_stands_apart ms ranges places rules bounds e = together ms ranges places rules bounds (located-by ms ranges places e)
