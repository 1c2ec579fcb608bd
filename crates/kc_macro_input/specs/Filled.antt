-- The lines of a body with what stands for their parameters, or the first fault of `&` and of long lines: of the least
-- line the least code.
use Rattle.std.specs.Prelude.{ℕ, List, [], ◌∷◌, ◌++◌, map, Option, Some, None, Result, Ok, Err}
use Rattle.std.specs.Global.{Vec}
use Rattle.kc_lex.specs.declared.token.Token.{Token}
use Rattle.kc_lex.specs.LineFaults.{Fault, first_of}
use Rattle.kc_macro_body.specs.declared.macros.Formals.{Formals}
use Rattle.kc_macro_body.specs.Filling.{filled}
use Rattle.kc_macro_input.specs.declared.piece.Piece.{Piece}

abbrev pub Filled : Type 0
Filled = Result (List Piece) Fault

-- lines one after the other, or the first of their faults
abbrev pub together : Filled → Filled → Filled
together (Ok ps) (Ok qs) = Ok (ps ++ qs)
together (Ok ps) (Err g) = Err g
together (Err f) (Ok qs) = Err f
together (Err f) (Err g) = Err (first_of f g)

unfoldable pub all_together : List Filled → Filled
all_together [] = Ok []
all_together (x ∷ xs) = together x (all_together xs)

-- ---- a line, and a body

abbrev pub single : Result Piece Fault → Filled
single (Ok p) = Ok (p ∷ [])
single (Err f) = Err f

abbrev pub with_tokens : Piece → Result (List Token) ℕ → Result Piece Fault
with_tokens p (Ok ts) = Ok (record p { tokens = Some ts })
with_tokens p (Err code) = Err (p.number, code)

-- where a turn begins nothing is replaced
abbrev pub fill_text : Formals → List (List Token) → ℕ → Piece → Option (List Token) → Result Piece Fault
fill_text f args given p None = Ok p
fill_text f args given p (Some ts) = with_tokens p (filled f args given ts)

abbrev pub fill_piece : Formals → List (List Token) → ℕ → Piece → Result Piece Fault
fill_piece f args given p = fill_text f args given p p.tokens

abbrev pub fill_body : Formals → List (List Token) → ℕ → List Piece → Filled
fill_body f args given ps = all_together (map (λ p. single (fill_piece f args given p)) ps)

-- ---- the turns over some arguments: each begins with a place of its own

abbrev pub fill_turn : Formals → Piece → List Piece → List Token → Filled
fill_turn f head body arg = together (Ok (head ∷ [])) (fill_body f (arg ∷ []) 0 body)

abbrev pub fill_turns : Formals → Piece → List Piece → List (List Token) → Filled
fill_turns f head body args = all_together (map (fill_turn f head body) args)

-- ---- what a filling gives, if it has no fault, and its fault

abbrev pub lines_of : Filled → List Piece
lines_of (Ok ps) = ps
lines_of (Err f) = []

abbrev pub fault_of : Filled → Option Fault
fault_of (Ok ps) = None
fault_of (Err f) = Some f

-- the turns over some arguments, where none of their lines has a fault
unfoldable pub turns_over : Formals → Piece → List Piece → List (List Token) → List Piece
turns_over f head body [] = []
turns_over f head body (arg ∷ args) = head ∷ (lines_of (fill_body f (arg ∷ []) 0 body) ++ turns_over f head body args)

-- what a call answers
abbrev pub seen_filled : Result (Vec Piece) Fault → Filled
seen_filled (Ok v) = Ok v.items
seen_filled (Err f) = Err f
