-- What stands for a body has the numbers of its pieces, and so has the first of its faults.
use Rattle.std.proofs.Common.{◌≡◌, ℕ, Bool, true, false, cond, List, [], ◌∷◌, Option, Some, None, Result, Ok, Err, refl}
use Rattle.std.specs.List.{list_all}
use Rattle.std.proofs.lemmas.Bool.{and_parts, and_from}
use Rattle.kc_lex.specs.declared.token.Token.{Token}
use Rattle.kc_lex.specs.LineFaults.{Fault, is_before, first_of}
use Rattle.kc_macro_body.specs.declared.macros.Formals.{Formals}
use Rattle.kc_macro_body.specs.Filling.{filled}
use Rattle.kc_macro_input.specs.declared.piece.Piece.{Piece}
use Rattle.kc_macro_input.specs.Filled.{Filled, together, all_together, single, with_tokens, fill_text, fill_piece, fill_body, fill_turn, fill_turns}
use Rattle.kc_source_laws.proofs.Tests.{all_join}

-- a piece whose number passes a test
abbrev pub is_numbered : (ℕ → Bool) → Piece → Bool
is_numbered numbers p = numbers p.number

abbrev pub FilledAt : (ℕ → Bool) → Filled → Type 0
FilledAt numbers (Ok ps) = list_all (is_numbered numbers) ps ≡ true
FilledAt numbers (Err f) = numbers f.0 ≡ true

first_at : (numbers : ℕ → Bool) (f g : Fault) → numbers f.0 ≡ true → numbers g.0 ≡ true → numbers (first_of f g).0 ≡ true
first_at numbers f g h k = elim (is_before g f) as (λ b. numbers (cond b g f).0 ≡ true) [ true ↦ k | false ↦ h ]

together_at : (numbers : ℕ → Bool) (a b : Filled) → FilledAt numbers a → FilledAt numbers b → FilledAt numbers (together a b)
together_at numbers (Ok ps) (Ok qs) h k = all_join (is_numbered numbers) ps qs h k
together_at numbers (Ok ps) (Err g) h k = k
together_at numbers (Err f) (Ok qs) h k = h
together_at numbers (Err f) (Err g) h k = first_at numbers f g h k

with_at : (numbers : ℕ → Bool) (p : Piece) (r : Result (List Token) ℕ) → numbers p.number ≡ true → FilledAt numbers (single (with_tokens p r))
with_at numbers p (Ok ts) n = and_from (numbers p.number) true n refl
with_at numbers p (Err code) n = n

text_at : (numbers : ℕ → Bool) (f : Formals) (args : List (List Token)) (given : ℕ) (p : Piece) (o : Option (List Token)) → numbers p.number ≡ true
    → FilledAt numbers (single (fill_text f args given p o))
text_at numbers f args given p None n = and_from (numbers p.number) true n refl
text_at numbers f args given p (Some ts) n = with_at numbers p (filled f args given ts) n

pub body_at : (numbers : ℕ → Bool) (f : Formals) (args : List (List Token)) (given : ℕ) (ps : List Piece) → list_all (is_numbered numbers) ps ≡ true
    → FilledAt numbers (fill_body f args given ps)
unfolding all_together
body_at numbers f args given [] h = refl
body_at numbers f args given (p ∷ ps) h =
    let both : (numbers p.number ≡ true) × (list_all (is_numbered numbers) ps ≡ true) = and_parts (numbers p.number) (list_all (is_numbered numbers) ps) h in
    together_at numbers (single (fill_piece f args given p)) (fill_body f args given ps) (text_at numbers f args given p p.tokens both.0) (body_at numbers f args given ps both.1)

pub turns_at : (numbers : ℕ → Bool) (f : Formals) (head : Piece) (ps : List Piece) (args : List (List Token)) → numbers head.number ≡ true
    → list_all (is_numbered numbers) ps ≡ true → FilledAt numbers (fill_turns f head ps args)
unfolding all_together
turns_at numbers f head ps [] n h = refl
turns_at numbers f head ps (arg ∷ args) n h =
    together_at numbers (fill_turn f head ps arg) (fill_turns f head ps args)
    (together_at numbers (Ok (head ∷ [])) (fill_body f (arg ∷ []) 0 ps) (and_from (numbers head.number) true n refl) (body_at numbers f (arg ∷ []) 0 ps h))
    (turns_at numbers f head ps args n h)
