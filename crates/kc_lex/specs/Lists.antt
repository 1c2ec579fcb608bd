-- Lists of tokens.
use Rattle.std.specs.Prelude.{ℕ, List, [], ◌∷◌}
use Rattle.kc_lex.specs.declared.token.Token.{Token}

-- the text of the first token
abbrev pub first_text : List Token → List ℕ
first_text [] = []
first_text (t ∷ ts) = t.text

-- a token in front of the first of some lists
abbrev pub in_first : Token → List (List Token) → List (List Token)
in_first t [] = (t ∷ []) ∷ []
in_first t (l ∷ ls) = (t ∷ l) ∷ ls
