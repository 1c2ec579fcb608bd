-- Writing the bytes of runs one after the other, and reading them back.
use Rattle.std.proofs.Common.{◌≡◌, ℕ, zero, suc, ◌+◌, ◌-◌, ◌<◌, ◌≤◌, List, [], ◌∷◌, ◌++◌, length, get_or, take, drop, replicate, Some, None, refl, ap, sym, ◌∙◌, subst, inl, inr, arith}
use Rattle.std.specs.Prelude.{slice_get, slice_set, ◌⊎◌, Result, Ok, Err, IfOk}
use Rattle.std.proofs.lemmas.List.{length-replicate, get_or-replicate}
use Rattle.std.proofs.lemmas.Option.{slice_get-get_or}
use Rattle.kc_base.specs.declared.types.NoMemory.{NoMemory}
use Rattle.std.proofs.Math.Seq.{take-length}
use Rattle.kc_obj_module.specs.declared.parts.Content.{Content}
use Rattle.kc_obj_module.specs.Object.{Object}
use Rattle.kc_obj_module.specs.Numbers.{Bases}
use Rattle.kc_link_place.specs.BaseLists.{BaseLists, bases_in, or_0}
use Rattle.kc_link_place.specs.Filled.{filled_at, unfit_in}
use Rattle.kc_link.specs.Writes.{written, bytes_of, runs_of, all_bytes, RunStands, RunsStand, ModulesStand, IsBlank}

abbrev pub tail : {X : Type 0} → List X → List X
tail xs = take (length xs - 1) (drop 1 xs)

tail_is : {X : Type 0} (x : X) (xs : List X) → tail (x ∷ xs) ≡ xs
tail_is x xs =
    let n : length (x ∷ xs) - 1 ≡ length xs = omega arith in
    rw n (take-length xs)

bytes_one : (image : List ℕ) (b : Bases) (m : Object) (p o n count place value : ℕ) → n ≡ suc count → Some value ≡ filled_at b m p o → place ≡ (b.piece p + o) - 0x2000 →
    written image (bytes_of b m p o n) ≡ written (slice_set image place value) (bytes_of b m p (o + 1) count)
unfolding written bytes_of
bytes_one image b m p o n count place value e f g =
    let v : or_0 (filled_at b m p o) ≡ value = ap or_0 (sym f) in
    rw (e, g) (ap (λ (x : ℕ). written (slice_set image ((b.piece p + o) - 0x2000) x) (bytes_of b m p (o + 1) count)) v)

pub bytes_step : (image : List ℕ) (b : Bases) (m : Object) (p o k len place value : ℕ) → k < len → Some value ≡ filled_at b m p (o + k) → place ≡ (b.piece p + (o + k)) - 0x2000 →
    written image (bytes_of b m p (o + k) (len - k)) ≡ written (slice_set image place value) (bytes_of b m p (o + (k + 1)) (len - (k + 1)))
bytes_step image b m p o k len place value l f g =
    let q : (o + k) + 1 ≡ o + (k + 1) = omega arith in
    let r : len - k ≡ suc (len - (k + 1)) = omega (arith, l) in
    bytes_one image b m p (o + k) (len - k) (len - (k + 1)) place value r f g ∙ ap (λ (x : ℕ). written (slice_set image place value) (bytes_of b m p x (len - (k + 1)))) q

pub bytes_end : (image : List ℕ) (b : Bases) (m : Object) (p o n : ℕ) → n ≡ 0 → written image (bytes_of b m p o n) ≡ image
unfolding written bytes_of
bytes_end image b m p o n e = rw e refl

pub written-append : (image : List ℕ) (ws vs : List (ℕ × ℕ)) → written image (ws ++ vs) ≡ written (written image ws) vs
unfolding written
written-append image [] vs = refl
written-append image (w ∷ ws) vs = written-append (slice_set image w.0 w.1) ws vs

pub runs_step : (image new : List ℕ) (b : Bases) (m : Object) (xs : List Content) (c : Content) → 1 ≤ length xs → c ≡ get_or xs 0 c → new ≡ written image (bytes_of b m c.piece c.offset (length c.bytes)) →
    written new (runs_of b m (tail xs)) ≡ written image (runs_of b m xs)
unfolding runs_of
runs_step image new b m [] c l e n = absurd (omega arith)
runs_step image new b m (x ∷ xs) c l e n =
    let t : tail (x ∷ xs) ≡ xs = tail_is x xs in
    let f : c ≡ x = e in
    let g : new ≡ written image (bytes_of b m x.piece x.offset (length x.bytes)) = rw f at n in
    rw (t, g) (sym (written-append image (bytes_of b m x.piece x.offset (length x.bytes)) (runs_of b m xs)))

pub runs_stand : (b : Bases) (m : Object) (xs : List Content) (c : Content) → 1 ≤ length xs → c ≡ get_or xs 0 c → RunsStand b m xs → RunStands b m c × RunsStand b m (tail xs)
runs_stand b m [] c l e s = absurd (omega arith)
runs_stand b m (x ∷ xs) c l e s =
    let t : tail (x ∷ xs) ≡ xs = tail_is x xs in
    (subst (λ (y : Content). RunStands b m y) (sym e) s.0, rw t s.1)

pub runs_end : (image : List ℕ) (b : Bases) (m : Object) (xs : List Content) → length xs ≤ 0 → written image (runs_of b m xs) ≡ image
unfolding written runs_of
runs_end image b m [] l = refl
runs_end image b m (x ∷ xs) l = absurd (omega arith)

-- ---- all modules

pub fill_step : (image new : List ℕ) (ms : List Object) (bs : List BaseLists) (m : Object) (b : BaseLists) → 1 ≤ length ms → 1 ≤ length bs → m ≡ get_or ms 0 m → b ≡ get_or bs 0 b →
    new ≡ written image (runs_of (bases_in b) m m.contents) → written new (all_bytes (tail ms) (tail bs)) ≡ written image (all_bytes ms bs)
unfolding all_bytes
fill_step image new [] bs m b l k e f n = absurd (omega arith)
fill_step image new (x ∷ ms) [] m b l k e f n = absurd (omega arith)
fill_step image new (x ∷ ms) (y ∷ bs) m b l k e f n =
    let t : tail (x ∷ ms) ≡ ms = tail_is x ms in
    let u : tail (y ∷ bs) ≡ bs = tail_is y bs in
    let g : m ≡ x = e in
    let h : b ≡ y = f in
    let i : new ≡ written image (runs_of (bases_in y) x x.contents) = n ∙ (λ j. written image (runs_of (bases_in (h j)) (g j) (g j).contents)) in
    rw (t, u, i) (sym (written-append image (runs_of (bases_in y) x x.contents) (all_bytes ms bs)))

pub fill_stand : (ms : List Object) (bs : List BaseLists) (m : Object) (b : BaseLists) → 1 ≤ length ms → 1 ≤ length bs → m ≡ get_or ms 0 m → b ≡ get_or bs 0 b → ModulesStand ms bs →
    ((unfit_in (bases_in b) m.fixups ≡ None) × RunsStand (bases_in b) m m.contents) × ModulesStand (tail ms) (tail bs)
fill_stand [] bs m b l k e f s = absurd (omega arith)
fill_stand (x ∷ ms) [] m b l k e f s = absurd (omega arith)
fill_stand (x ∷ ms) (y ∷ bs) m b l k e f s =
    let t : tail (x ∷ ms) ≡ ms = tail_is x ms in
    let u : tail (y ∷ bs) ≡ bs = tail_is y bs in (
      subst (λ (z : BaseLists). (unfit_in (bases_in z) m.fixups ≡ None) × RunsStand (bases_in z) m m.contents) (sym f)
          (subst (λ (z : Object). (unfit_in (bases_in y) z.fixups ≡ None) × RunsStand (bases_in y) z z.contents) (sym e) s.0),
      rw (t, u) s.1,
    )

pub fill_end : (image : List ℕ) (ms : List Object) (bs : List BaseLists) → length ms ≤ 0 → written image (all_bytes ms bs) ≡ image
unfolding written all_bytes
fill_end image [] bs l = refl
fill_end image (x ∷ ms) bs l = absurd (omega arith)

pub fill_short : (image : List ℕ) (ms : List Object) (bs : List BaseLists) → length bs ≤ 0 → written image (all_bytes ms bs) ≡ image
unfolding written all_bytes
fill_short image [] bs l = refl
fill_short image (x ∷ ms) [] l = refl
fill_short image (x ∷ ms) (y ∷ bs) l = absurd (omega arith)

-- ---- what is written is read back

set-here : (xs : List ℕ) (n v : ℕ) → n < length xs → slice_get (slice_set xs n v) n ≡ Some v
set-here [] n v h = absurd (omega arith)
set-here (x ∷ xs) zero v h = refl
set-here (x ∷ xs) (suc n) v h = set-here xs n v (omega arith)

set-other : (xs : List ℕ) (n k v : ℕ) → (n ≡ k → ⊥) → slice_get (slice_set xs n v) k ≡ slice_get xs k
set-other [] n k v h = refl
set-other (x ∷ xs) zero zero v h = absurd (h refl)
set-other (x ∷ xs) zero (suc k) v h = refl
set-other (x ∷ xs) (suc n) zero v h = refl
set-other (x ∷ xs) (suc n) (suc k) v h = set-other xs n k v (λ e. h (ap (λ (m : ℕ). suc m) e))

set-long : (xs : List ℕ) (n v : ℕ) → length (slice_set xs n v) ≡ length xs
set-long [] n v = refl
set-long (x ∷ xs) zero v = refl
set-long (x ∷ xs) (suc n) v = ap (λ (m : ℕ). suc m) (set-long xs n v)

pub written-long : (image : List ℕ) (ws : List (ℕ × ℕ)) → length (written image ws) ≡ length image
unfolding written
written-long image [] = refl
written-long image (w ∷ ws) = written-long (slice_set image w.0 w.1) ws ∙ set-long image w.0 w.1

-- a byte is written at a place
abbrev pub Has : ℕ → ℕ → List (ℕ × ℕ) → Type 0
Has place byte [] = ⊥
Has place byte (w ∷ ws) = ((w.0 ≡ place) × (w.1 ≡ byte)) ⊎ Has place byte ws

-- none is
abbrev pub Misses : ℕ → List (ℕ × ℕ) → Type 0
Misses place [] = Unit {0}
Misses place (w ∷ ws) = (w.0 ≡ place → ⊥) × Misses place ws

same-or : (m n : ℕ) → (m ≡ n) ⊎ (m ≡ n → ⊥)
same-or zero zero = inl refl
same-or zero (suc n) = inr (λ e. omega (arith, e))
same-or (suc m) zero = inr (λ e. omega (arith, e))
same-or (suc m) (suc n) = elim (same-or m n) [ inl e ↦ inl (ap (λ (k : ℕ). suc k) e) | inr f ↦ inr (λ e. f (omega (arith, e))) ]

pub has_or_misses : (place : ℕ) (ws : List (ℕ × ℕ)) → ((byte : ℕ) × Has place byte ws) ⊎ Misses place ws
has_or_misses place [] = inr tt
has_or_misses place (w ∷ ws) = elim (same-or w.0 place) [
  | inl e ↦ inl (w.1, inl (e, refl))
  | inr f ↦ elim (has_or_misses place ws) [ inl h ↦ inl (h.0, inr h.1) | inr m ↦ inr (f, m) ]
]

pub stay : (image : List ℕ) (ws : List (ℕ × ℕ)) (place : ℕ) → Misses place ws → slice_get (written image ws) place ≡ slice_get image place
unfolding written
stay image [] place h = refl
stay image (w ∷ ws) place h = stay (slice_set image w.0 w.1) ws place h.1 ∙ set-other image w.0 place w.1 h.0

-- where all bytes that are written at a place are the same one
pub stand : (image : List ℕ) (ws : List (ℕ × ℕ)) (place byte : ℕ) → place < length image → Has place byte ws → ((other : ℕ) → Has place other ws → other ≡ byte) → slice_get (written image ws) place ≡ Some byte
unfolding written
stand image [] place byte l h all = absurd h
stand image (w ∷ ws) place byte l h all = elim (has_or_misses place ws) [
  | inl k ↦
      let e : k.0 ≡ byte = all k.0 (inr k.1) in
      stand (slice_set image w.0 w.1) ws place byte (omega (arith, l, set-long image w.0 w.1)) (subst (λ (b : ℕ). Has place b ws) e k.1) (λ other g. all other (inr g))
  | inr m ↦ elim h [
    | inl k ↦
        let s : slice_get (slice_set image w.0 w.1) place ≡ Some byte = subst (λ (n : ℕ). slice_get (slice_set image n w.1) place ≡ Some byte) (sym k.0) (set-here image place w.1 l ∙ ap (λ (b : ℕ). Some b) k.1) in
        stay (slice_set image w.0 w.1) ws place m ∙ s
    | inr k ↦ absurd (missed ws place byte k m)
  ]
]
  where
    missed : (vs : List (ℕ × ℕ)) (place byte : ℕ) → Has place byte vs → Misses place vs → ⊥
    missed [] place byte h m = h
    missed (v ∷ vs) place byte (inl h) m = m.0 h.0
    missed (v ∷ vs) place byte (inr h) m = missed vs place byte h m.1

pub has-left : (place byte : ℕ) (ws vs : List (ℕ × ℕ)) → Has place byte ws → Has place byte (ws ++ vs)
has-left place byte [] vs h = absurd h
has-left place byte (w ∷ ws) vs (inl h) = inl h
has-left place byte (w ∷ ws) vs (inr h) = inr (has-left place byte ws vs h)

pub has-right : (place byte : ℕ) (ws vs : List (ℕ × ℕ)) → Has place byte vs → Has place byte (ws ++ vs)
has-right place byte [] vs h = h
has-right place byte (w ∷ ws) vs h = inr (has-right place byte ws vs h)

pub has-either : (place byte : ℕ) (ws vs : List (ℕ × ℕ)) → Has place byte (ws ++ vs) → Has place byte ws ⊎ Has place byte vs
has-either place byte [] vs h = inr h
has-either place byte (w ∷ ws) vs (inl h) = inl (inl h)
has-either place byte (w ∷ ws) vs (inr h) = elim (has-either place byte ws vs h) [ inl k ↦ inl (inr k) | inr k ↦ inr k ]

-- ---- an image of FFH

get_replicate : (n k v : ℕ) → k < n → slice_get (replicate n v) k ≡ Some v
get_replicate n k v l = slice_get-get_or (replicate n v) k 0 (omega (arith, length-replicate n v)) ∙ ap (λ (x : ℕ). Some x) (get_or-replicate n k v 0 l)

pub blank_ok : (n : ℕ) (r : Result (List ℕ) NoMemory) → n ≡ 0xE000 → IfOk r (λ i. i ≡ replicate n 255) → IfOk r (λ i. IsBlank i)
blank_ok n (Ok i) e h = record {
  long = ap (λ (l : List ℕ). length l) h ∙ (length-replicate n 255 ∙ e);
  empty = λ place l. rw h (get_replicate n place 255 (omega (arith, l, e)));
}
blank_ok n (Err f) e h = tt
