-- The lines of bodies that are alike, with what stands for their parameters.
use Rattle.std.proofs.Common.{◌≡◌, ℕ, List, [], ◌∷◌, Option, Some, None, Result, Ok, Err, refl, sym, subst}
use Rattle.kc_lex.specs.declared.token.Token.{Token}
use Rattle.kc_macro_body.specs.declared.macros.Formals.{Formals}
use Rattle.kc_macro_body.specs.Filling.{filled}
use Rattle.kc_macro_input.specs.declared.piece.Piece.{Piece}
use Rattle.kc_macro_input.specs.Filled.{Filled, together, all_together, single, with_tokens, fill_text, fill_piece, fill_body, fill_turn, fill_turns}
use Rattle.kc_macro_laws.proofs.Pairs.{Pairs, pairs_append}

abbrev pub FilledPairs : (Piece → Piece → Type 0) → Filled → Filled → Type 0
FilledPairs R (Ok ps) (Ok qs) = Pairs R ps qs
FilledPairs R (Ok ps) (Err g) = ⊥
FilledPairs R (Err f) (Ok qs) = ⊥
FilledPairs R (Err f) (Err g) = g ≡ f

together_pairs : (R : Piece → Piece → Type 0) (a b c d : Filled) → FilledPairs R a c → FilledPairs R b d → FilledPairs R (together a b) (together c d)
together_pairs R (Ok ps) (Ok qs) (Ok rs) (Ok ss) h k = pairs_append R ps rs qs ss h k
together_pairs R (Ok ps) (Ok qs) (Ok rs) (Err g) h k = absurd k
together_pairs R (Ok ps) (Err f) (Ok rs) (Ok ss) h k = absurd k
together_pairs R (Ok ps) (Err f) (Ok rs) (Err g) h k = k
together_pairs R (Ok ps) b (Err g) d h k = absurd h
together_pairs R (Err f) b (Ok rs) d h k = absurd h
together_pairs R (Err f) (Ok qs) (Err g) (Ok ss) h k = h
together_pairs R (Err f) (Ok qs) (Err g) (Err u) h k = absurd k
together_pairs R (Err f) (Err v) (Err g) (Ok ss) h k = absurd k
together_pairs R (Err f) (Err v) (Err g) (Err u) h k = rw (h, k) refl

-- what keeps with new tokens keeps a line alike
pub record Fills (R S : Piece → Piece → Type 0) : Type 0 where
  pub number : (p q : Piece) → R p q → q.number ≡ p.number
  pub tokens : (p q : Piece) → R p q → q.tokens ≡ p.tokens
  pub kept : (p q : Piece) → R p q → S p q
  pub put : (p q : Piece) (ts : List Token) → R p q → S (record p { tokens = Some ts }) (record q { tokens = Some ts })

with_pairs : (R S : Piece → Piece → Type 0) (p q : Piece) (r : Result (List Token) ℕ) → Fills R S → R p q → FilledPairs S (single (with_tokens p r)) (single (with_tokens q r))
with_pairs R S p q (Ok ts) fills h = (fills.put p q ts h, tt)
with_pairs R S p q (Err code) fills h = rw (fills.number p q h) refl

text_pairs : (R S : Piece → Piece → Type 0) (f : Formals) (args : List (List Token)) (given : ℕ) (p q : Piece) (o : Option (List Token)) → Fills R S → R p q →
    FilledPairs S (single (fill_text f args given p o)) (single (fill_text f args given q o))
text_pairs R S f args given p q None fills h = (fills.kept p q h, tt)
text_pairs R S f args given p q (Some ts) fills h = with_pairs R S p q (filled f args given ts) fills h

pub body_pairs : (R S : Piece → Piece → Type 0) (f : Formals) (args : List (List Token)) (given : ℕ) (ps qs : List Piece) → Fills R S → Pairs R ps qs →
    FilledPairs S (fill_body f args given ps) (fill_body f args given qs)
unfolding all_together
body_pairs R S f args given [] [] fills h = tt
body_pairs R S f args given [] (q ∷ qs) fills h = absurd h
body_pairs R S f args given (p ∷ ps) [] fills h = absurd h
body_pairs R S f args given (p ∷ ps) (q ∷ qs) fills h =
    let first : FilledPairs S (single (fill_piece f args given p)) (single (fill_piece f args given q)) =
    subst (λ o. FilledPairs S (single (fill_piece f args given p)) (single (fill_text f args given q o))) (sym (fills.tokens p q h.0)) (text_pairs R S f args given p q p.tokens fills h.0) in
    together_pairs S (single (fill_piece f args given p)) (fill_body f args given ps) (single (fill_piece f args given q)) (fill_body f args given qs) first (body_pairs R S f args given ps qs fills h.1)

pub turns_pairs : (R S : Piece → Piece → Type 0) (f : Formals) (head other : Piece) (ps qs : List Piece) (args : List (List Token)) → Fills R S → S head other → Pairs R ps qs →
    FilledPairs S (fill_turns f head ps args) (fill_turns f other qs args)
unfolding all_together
turns_pairs R S f head other ps qs [] fills h k = tt
turns_pairs R S f head other ps qs (arg ∷ args) fills h k =
    let first : FilledPairs S (fill_turn f head ps arg) (fill_turn f other qs arg) =
    together_pairs S (Ok (head ∷ [])) (fill_body f (arg ∷ []) 0 ps) (Ok (other ∷ [])) (fill_body f (arg ∷ []) 0 qs) (h, tt) (body_pairs R S f (arg ∷ []) 0 ps qs fills k) in
    together_pairs S (fill_turn f head ps arg) (fill_turns f head ps args) (fill_turn f other qs arg) (fill_turns f other qs args) first (turns_pairs R S f head other ps qs args fills h k)
