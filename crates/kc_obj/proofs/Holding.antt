-- The bytes of contents where they stand in the file.
use Rattle.std.proofs.Common.{◌≡◌, ℕ, zero, suc, ◌+◌, ◌-◌, ◌<◌, true, false, ◌&&◌, cond, List, [], ◌∷◌, ◌++◌, length, take, drop, Some, None, refl, ap, ◌∙◌, arith}
use Rattle.std.specs.Prelude.{slice_get, nat_lt, nat_le, ◌==◌}
use Rattle.std.proofs.lemmas.Bool.{and_parts, ltb-true, leb-true}
use Rattle.kc_obj_module.specs.declared.parts.Content.{Content}
use Rattle.kc_obj_module.specs.Contents.{covers, content_at}
use Rattle.kc_obj_fields.specs.Records.{place_of, byte_of_file}

pub get_drop : (n i : ℕ) (xs : List ℕ) → slice_get (drop n xs) i ≡ slice_get xs (n + i)
get_drop zero i xs = let e : i ≡ 0 + i = omega arith in ap (slice_get xs) e
get_drop (suc n) i [] = refl
get_drop (suc n) i (x ∷ xs) = let e : suc (n + i) ≡ suc n + i = omega arith in get_drop n i xs ∙ ap (slice_get (x ∷ xs)) e

pub get_take : (n i : ℕ) (xs : List ℕ) → i < n → slice_get (take n xs) i ≡ slice_get xs i
get_take zero i xs h = absurd (omega arith)
get_take (suc n) i [] h = refl
get_take (suc n) zero (x ∷ xs) h = refl
get_take (suc n) (suc i) (x ∷ xs) h = get_take n i xs (omega arith)

-- the bytes of a run stand from a place on
abbrev pub StandsAt : List ℕ → Content → ℕ → Type 0
StandsAt file c start = (i : ℕ) → i < length c.bytes → slice_get file (start + i) ≡ slice_get c.bytes i

abbrev At : List ℕ → List Content → List ℕ → ℕ → ℕ → Type 0
At file cs starts p o = byte_of_file file (place_of cs starts p o) ≡ content_at cs p o

pub hold_none : (file : List ℕ) (p o : ℕ) → At file [] [] p o
unfolding place_of content_at
hold_none file p o = refl

hold_one : (file : List ℕ) (c : Content) (start : ℕ) (p o : ℕ) → StandsAt file c start → At file (c ∷ []) (start ∷ []) p o
unfolding place_of content_at
hold_one file c start p o stands =
    elim (covers c p o) as (λ b. covers c p o ≡ b → byte_of_file file (cond b (Some (start + (o - c.offset))) None) ≡ cond b (slice_get c.bytes (o - c.offset)) None) [
      | true ↦ λ e.
          let both = and_parts ((c.piece == p) && nat_le c.offset o) (nat_lt o (c.offset + length c.bytes)) e in
          let low = leb-true c.offset o (and_parts (c.piece == p) (nat_le c.offset o) both.0).1 in
          let high = ltb-true o (c.offset + length c.bytes) both.1 in
          stands (o - c.offset) (omega arith)
      | false ↦ λ e. refl
    ] refl

pub hold_push : (file : List ℕ) (cs : List Content) (starts : List ℕ) (c : Content) (start : ℕ) (p o : ℕ) → length cs ≡ length starts → StandsAt file c start → At file cs starts p o → At file (cs ++ c ∷ []) (starts ++ start ∷ []) p o
unfolding place_of content_at
hold_push file [] [] c start p o len stands h = hold_one file c start p o stands
hold_push file [] (s ∷ starts) c start p o len stands h = absurd (omega arith)
hold_push file (d ∷ cs) [] c start p o len stands h = absurd (omega arith)
hold_push file (d ∷ cs) (s ∷ starts) c start p o len stands h =
    elim (covers d p o) as (λ b. byte_of_file file (cond b (Some (s + (o - d.offset))) (place_of cs starts p o)) ≡ cond b (slice_get d.bytes (o - d.offset)) (content_at cs p o)
    → byte_of_file file (cond b (Some (s + (o - d.offset))) (place_of (cs ++ c ∷ []) (starts ++ start ∷ []) p o)) ≡ cond b (slice_get d.bytes (o - d.offset)) (content_at (cs ++ c ∷ []) p o)) [
      | true ↦ λ k. k
      | false ↦ λ k. hold_push file cs starts c start p o (omega arith) stands k
    ] h
