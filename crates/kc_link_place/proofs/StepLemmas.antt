-- The first of the items that are left, and the others.
use Rattle.std.proofs.Common.{◌≡◌, ℕ, ◌-◌, ◌≤◌, List, [], ◌∷◌, ◌++◌, length, get_or, take, drop, map, Some, None, refl, sym, ap, ◌∙◌, append_assoc, append-nil, arith}
use Rattle.std.specs.Prelude.{Ok, Err}
use Rattle.std.proofs.Math.Seq.{take-length}
use Rattle.kc_obj_module.specs.declared.parts.Taken.{Taken}
use Rattle.kc_link_place.specs.declared.ranges.Ranges.{Ranges}
use Rattle.kc_link_place.specs.declared.pieces.Piece.{Piece}
use Rattle.kc_link_place.specs.declared.pieces.Stand.{Stand}
use Rattle.kc_link_place.specs.declared.gaps.Gap.{Gap}
use Rattle.kc_link_place.specs.declared.putting.NoPlace.{NoPlace}
use Rattle.kc_link_place.specs.declared.putting.NoPlace.TheVariants.{NoRoom, NoMemoryLeft}
use Rattle.kc_link_place.specs.Ranges.{range_of, step_of}
use Rattle.kc_link_place.specs.Stands.{least_free, stand_at}
use Rattle.kc_link_place.specs.Gaps.{Represents}
use Rattle.kc_link_place.specs.Placing.{put_all, IsPut, ArePut}

abbrev pub tail : {X : Type 0} → List X → List X
tail xs = take (length xs - 1) (drop 1 xs)

tail_is : {X : Type 0} (x : X) (xs : List X) → tail (x ∷ xs) ≡ xs
tail_is x xs =
    let n : length (x ∷ xs) - 1 ≡ length xs = omega arith in
    rw n (take-length xs)

pub map_step : (f : Taken → ℕ) (xs : List Taken) (x : Taken) (ns new : List ℕ) (v : ℕ) → 1 ≤ length xs → new ≡ ns ++ v ∷ [] → x ≡ get_or xs 0 x → v ≡ f x → new ++ map f (tail xs) ≡ ns ++ map f xs
map_step f [] x ns new v l e i h = absurd (omega arith)
map_step f (y ∷ xs) x ns new v l e i h =
    let t : tail (y ∷ xs) ≡ xs = tail_is y xs in
    let g : v ≡ f y = h ∙ ap f i in
    let a : (ns ++ f y ∷ []) ++ map f xs ≡ ns ++ f y ∷ map f xs = append_assoc ns (f y ∷ []) (map f xs) in
    rw (t, e, g) a

pub map_end : (f : Taken → ℕ) (xs : List Taken) (ns : List ℕ) → length xs ≤ 0 → ns ++ map f xs ≡ ns
map_end f [] ns l = append-nil ns
map_end f (x ∷ xs) ns l = absurd (omega arith)

module _ (ranges : Ranges) (fixed puts : List Stand) (gaps : List Gap) where
  pub put_step : (xs : List Piece) (d : Piece) (s : Stand) (new : List Stand) → 1 ≤ length xs → new ≡ puts ++ s ∷ [] → IsPut ranges (fixed ++ puts) (get_or xs 0 d) gaps (Ok s) →
      (put_all ranges fixed new (tail xs) ≡ put_all ranges fixed puts xs) × Represents gaps (fixed ++ new)
  unfolding put_all
  put_step [] d s new l e p = absurd (omega arith)
  put_step (x ∷ xs) d s new l e p =
      let t : tail (x ∷ xs) ≡ xs = tail_is x xs in
      let f : least_free (fixed ++ puts) (range_of ranges x.kind) (step_of x.kind) x.size ≡ Some s.at = p.0 in
      let g : s ≡ stand_at x s.at = p.1.0 in
      let h : fixed ++ (puts ++ s ∷ []) ≡ (fixed ++ puts) ++ s ∷ [] = sym (append_assoc fixed puts (s ∷ [])) in
      (rw (t, e) (rw (f, put_all) (ap (λ (y : Stand). put_all ranges fixed (puts ++ y ∷ []) xs) g)), rw (e, h) p.1.1)

  none_fits : (xs : List Piece) (d : Piece) → 1 ≤ length xs → least_free (fixed ++ puts) (range_of ranges (get_or xs 0 d).kind) (step_of (get_or xs 0 d).kind) (get_or xs 0 d).size ≡ None →
      put_all ranges fixed puts xs ≡ Err (get_or xs 0 d)
  unfolding put_all
  none_fits [] d l e = absurd (omega arith)
  none_fits (x ∷ xs) d l e = rw (e, put_all) refl

  pub put_stop : (xs : List Piece) (d : Piece) (cause : NoPlace) (all : List Piece) → 1 ≤ length xs → IsPut ranges (fixed ++ puts) (get_or xs 0 d) gaps (Err cause) →
      put_all ranges fixed puts xs ≡ put_all ranges fixed [] all → ArePut ranges fixed all gaps (Err cause)
  put_stop xs d (NoRoom q) all l p e = sym e ∙ (none_fits xs d l p.0 ∙ ap (λ (y : Piece). Err y) (sym p.1))
  put_stop xs d NoMemoryLeft all l p e = tt

  pub put_end : (xs all : List Piece) → length xs ≤ 0 → put_all ranges fixed puts xs ≡ put_all ranges fixed [] all → put_all ranges fixed [] all ≡ Ok puts
  unfolding put_all
  put_end [] all l e = sym e
  put_end (x ∷ xs) all l e = absurd (omega arith)
