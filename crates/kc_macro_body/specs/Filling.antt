-- The lines of a body, as a call puts them in: parameters and LOCAL names are replaced, then neighbours of `&` are joined
-- (after the MCS-96 Macro Assembler User's Guide, "Macros").
use Rattle.std.specs.Prelude.{ℕ, ◌+◌, Bool, nat_lt, if◌then◌else◌, List, [], ◌∷◌, ◌++◌, length, get_or, Option, Some, None, Result, Ok, Err, position, codes, decimal, option_and_then}
use Rattle.std.specs.Str.{bytes_eq}
use Rattle.std.specs.FinMap as fm
use Rattle.kc_lex.specs.declared.token.TokenKind.TheVariants as kinds
use Rattle.kc_lex.specs.declared.token.Token.{Token}
use Rattle.kc_lex.specs.Kinds.{is_name_kind, is_sign}
use Rattle.kc_lex.specs.Chars.{upper}
use Rattle.kc_lex.specs.Words.{is_name_text}
use Rattle.kc_lex.specs.Codes.{no_statement, long_line}
use Rattle.kc_macro_body.specs.declared.macros.Formals.{Formals}

-- ---- replacing

abbrev pub name_token : List ℕ → Token
name_token text = record { kind = kinds.Name; text = text; value = 0 }

-- LOCAL names are ??0001 and on, with at least four digits
abbrev pub local_prefix : ℕ → List ℕ
local_prefix n = if nat_lt n 10 then codes "??000" else if nat_lt n 100 then codes "??00" else if nat_lt n 1000 then codes "??0" else codes "??"

abbrev pub local_name : ℕ → List ℕ
local_name n = local_prefix n ++ decimal n

-- so many LOCAL names have been given before the call
abbrev pub local_or : Token → ℕ → Option ℕ → List Token
local_or t given None = t ∷ []
local_or t given (Some place) = name_token (local_name (given + place + 1)) ∷ []

-- a missing argument is empty
abbrev pub argument_or : List Token → List (List Token) → Option ℕ → List Token
argument_or otherwise args None = otherwise
argument_or otherwise args (Some place) = get_or args place []

-- what stands for a token
abbrev pub stands_for : Formals → List (List Token) → ℕ → Token → List Token
stands_for f args given t =
    if is_name_kind t.kind then argument_or (local_or t given (fm.get f.locals.places t.text)) args (position (bytes_eq t.text) f.params)
    else t ∷ []

unfoldable pub replaced : Formals → List (List Token) → ℕ → List Token → List Token
replaced f args given [] = []
replaced f args given (t ∷ ts) = stands_for f args given t ++ replaced f args given ts

-- ---- joining, from the left

abbrev pub is_join : Token → Bool
is_join t = is_sign 38 t

-- the characters of two tokens as one name
abbrev pub one_name : List ℕ → Option Token
one_name text = if is_name_text text then Some (name_token (upper text)) else None

abbrev pub before : Token → Option (List Token) → Option (List Token)
before t None = None
before t (Some ts) = Some (t ∷ ts)

-- a token, and the tokens behind it
unfoldable mutual
  pub joined_on : Token → List Token → Option (List Token)
  joined_on t [] = Some (t ∷ [])
  joined_on t (a ∷ ts) = if is_join a then joined_with t ts else before t (joined_on a ts)

  -- a token, and the tokens behind the `&` after it
  pub joined_with : Token → List Token → Option (List Token)
  joined_with t [] = None
  joined_with t (u ∷ ts) = option_and_then (λ n. joined_on n ts) (one_name (t.text ++ u.text))

-- none where an `&` has not two neighbours, or these are no name
abbrev pub joined : List Token → Option (List Token)
joined [] = Some []
joined (t ∷ ts) = if is_join t then None else joined_on t ts

-- ---- a line, or the least code of its faults

abbrev pub is_long : List Token → Bool
is_long ts = nat_lt 255 (length ts)

abbrev pub checked : Bool → Option (List Token) → Result (List Token) ℕ
checked long None = Err no_statement
checked long (Some ts) = if long then Err long_line else Ok ts

-- the tokens are counted before they are joined
unfoldable pub filled : Formals → List (List Token) → ℕ → List Token → Result (List Token) ℕ
filled f args given ts = checked (is_long (replaced f args given ts)) (joined (replaced f args given ts))
