-- Texts whose lines are alike one by one.
use Rattle.std.proofs.Common.{◌≡◌, ℕ, zero, suc, Bool, true, false, cond, List, [], ◌∷◌, ◌++◌, length, map, Option, Some, refl, sym, ap, subst}
use Rattle.std.specs.Prelude.{is_some}
use Rattle.std.specs.List.{filter}
use Rattle.kc_lex.specs.declared.token.Token.{Token}
use Rattle.kc_macro_input.specs.declared.piece.Mark.{Mark}
use Rattle.kc_macro_input.specs.declared.piece.Piece.{Piece}
use Rattle.kc_macro_input.specs.Pieces.{is_line, texts_of, word_at, innermost, comes_from, left_out, repeated, same_mark}
use Rattle.kc_macro_laws.specs.Constructs.{is_exitm}
use Rattle.kc_macro_laws.proofs.Marks.{Alike}

abbrev pub Pairs : (Piece → Piece → Type 0) → List Piece → List Piece → Type 0
Pairs R [] [] = Unit {0}
Pairs R [] (q ∷ qs) = ⊥
Pairs R (p ∷ ps) [] = ⊥
Pairs R (p ∷ ps) (q ∷ qs) = R p q × Pairs R ps qs

-- one line, but for its marks
pub record Twin (x : Mark) (p q : Piece) : Type 0 where
  pub number : q.number ≡ p.number
  pub tokens : q.tokens ≡ p.tokens
  pub marks : Alike x p.from q.from

-- and it is no EXITM out of x
pub record Calm (x : Mark) (p q : Piece) : Type 0 where
  pub twin : Twin x p q
  pub calm : innermost p.from ≡ Some x → is_exitm (word_at p.tokens) ≡ false

-- and it comes from another call or repetition within x
pub record Within (x : Mark) (p q : Piece) : Type 0 where
  pub twin : Twin x p q
  pub other : innermost p.from ≡ Some x → ⊥

pub within_calm : (x : Mark) (p q : Piece) → Within x p q → Calm x p q
within_calm x p q h = record { twin = h.twin; calm = λ e. absurd (h.other e) }

-- ---- lists

pub pairs_append : (R : Piece → Piece → Type 0) (ps qs rest more : List Piece) → Pairs R ps qs → Pairs R rest more → Pairs R (ps ++ rest) (qs ++ more)
pairs_append R [] [] rest more h k = k
pairs_append R [] (q ∷ qs) rest more h k = absurd h
pairs_append R (p ∷ ps) [] rest more h k = absurd h
pairs_append R (p ∷ ps) (q ∷ qs) rest more h k = (h.0, pairs_append R ps qs rest more h.1 k)

pub pairs_repeated : (R : Piece → Piece → Type 0) (n : ℕ) (ps qs : List Piece) → Pairs R ps qs → Pairs R (repeated n ps) (repeated n qs)
unfolding repeated
pairs_repeated R zero ps qs h = tt
pairs_repeated R (suc n) ps qs h = pairs_append R ps qs (repeated n ps) (repeated n qs) h (pairs_repeated R n ps qs h)

pub pairs_length : (R : Piece → Piece → Type 0) (ps qs : List Piece) → Pairs R ps qs → length qs ≡ length ps
pairs_length R [] [] h = refl
pairs_length R [] (q ∷ qs) h = absurd h
pairs_length R (p ∷ ps) [] h = absurd h
pairs_length R (p ∷ ps) (q ∷ qs) h = ap suc (pairs_length R ps qs h.1)

pub pairs_map : (R S : Piece → Piece → Type 0) (f g : Piece → Piece) (ps qs : List Piece) → ((p q : Piece) → R p q → S (f p) (g q)) → Pairs R ps qs → Pairs S (map f ps) (map g qs)
pairs_map R S f g [] [] each h = tt
pairs_map R S f g [] (q ∷ qs) each h = absurd h
pairs_map R S f g (p ∷ ps) [] each h = absurd h
pairs_map R S f g (p ∷ ps) (q ∷ qs) each h = (each p q h.0, pairs_map R S f g ps qs each h.1)

pub pairs_each : (R S : Piece → Piece → Type 0) (ps qs : List Piece) → ((p q : Piece) → R p q → S p q) → Pairs R ps qs → Pairs S ps qs
pairs_each R S [] [] each h = tt
pairs_each R S [] (q ∷ qs) each h = absurd h
pairs_each R S (p ∷ ps) [] each h = absurd h
pairs_each R S (p ∷ ps) (q ∷ qs) each h = (each p q h.0, pairs_each R S ps qs each h.1)

-- ---- what looks at tokens alone

abbrev pub SameTokens : (Piece → Piece → Type 0) → Type 0
SameTokens R = (p q : Piece) → R p q → q.tokens ≡ p.tokens

pub pairs_lines : (R : Piece → Piece → Type 0) (ps qs : List Piece) → SameTokens R → Pairs R ps qs → Pairs R (filter is_line ps) (filter is_line qs)
pairs_lines R [] [] same h = tt
pairs_lines R [] (q ∷ qs) same h = absurd h
pairs_lines R (p ∷ ps) [] same h = absurd h
pairs_lines R (p ∷ ps) (q ∷ qs) same h =
    let later : Pairs R (filter is_line ps) (filter is_line qs) = pairs_lines R ps qs same h.1 in
    subst (λ (o : Option (List Token)). Pairs R (cond (is_line p) (p ∷ filter is_line ps) (filter is_line ps)) (cond (is_some o) (q ∷ filter is_line qs) (filter is_line qs))) (sym (same p q h.0)) (choice (is_line p) later)
  where
    choice : (b : Bool) → Pairs R (filter is_line ps) (filter is_line qs) → Pairs R (cond b (p ∷ filter is_line ps) (filter is_line ps)) (cond b (q ∷ filter is_line qs) (filter is_line qs))
    choice true k = (h.0, k)
    choice false k = k

pub pairs_texts : (R : Piece → Piece → Type 0) (ps qs : List Piece) → SameTokens R → Pairs R ps qs → texts_of qs ≡ texts_of ps
pairs_texts R [] [] same h = refl
pairs_texts R [] (q ∷ qs) same h = absurd h
pairs_texts R (p ∷ ps) [] same h = absurd h
pairs_texts R (p ∷ ps) (q ∷ qs) same h = rw (same p q h.0, pairs_texts R ps qs same h.1) refl

-- ---- EXITM of another call or repetition

pub pairs_left : (x m : Mark) (ps qs : List Piece) → same_mark m x ≡ false → Pairs (Calm x) ps qs → Pairs (Calm x) (left_out m ps) (left_out m qs)
unfolding left_out
pairs_left x m [] [] e h = tt
pairs_left x m [] (q ∷ qs) e h = absurd h
pairs_left x m (p ∷ ps) [] e h = absurd h
pairs_left x m (p ∷ ps) (q ∷ qs) e h =
    let same : comes_from m q ≡ comes_from m p = h.0.twin.marks.any m e in
    rw same (choice (comes_from m p) (pairs_left x m ps qs e h.1))
  where
    choice : (b : Bool) → Pairs (Calm x) (left_out m ps) (left_out m qs) → Pairs (Calm x) (cond b (left_out m ps) (p ∷ ps)) (cond b (left_out m qs) (q ∷ qs))
    choice true k = k
    choice false k = h
