-- What a token is: a certain sign, a certain word, a name that a program may define.
use Rattle.std.specs.Prelude.{ℕ, Bool, true, false, not, ◌&&◌, List, [], ◌∷◌}
use Rattle.std.specs.Str.{bytes_eq}
use Rattle.kc_lex.specs.declared.token.TokenKind.{TokenKind}
use Rattle.kc_lex.specs.declared.token.TokenKind.TheVariants as kinds
use Rattle.kc_lex.specs.declared.token.Token.{Token}
use Rattle.kc_lex.specs.Words.{is_reserved}

abbrev pub is_sign_kind : TokenKind → Bool
is_sign_kind kinds.Sign = true
is_sign_kind kinds.Name = false
is_sign_kind kinds.Number = false
is_sign_kind kinds.Chars = false

abbrev pub is_name_kind : TokenKind → Bool
is_name_kind kinds.Name = true
is_name_kind kinds.Sign = false
is_name_kind kinds.Number = false
is_name_kind kinds.Chars = false

abbrev pub is_number_kind : TokenKind → Bool
is_number_kind kinds.Number = true
is_number_kind kinds.Name = false
is_number_kind kinds.Chars = false
is_number_kind kinds.Sign = false

abbrev pub is_chars_kind : TokenKind → Bool
is_chars_kind kinds.Chars = true
is_chars_kind kinds.Name = false
is_chars_kind kinds.Number = false
is_chars_kind kinds.Sign = false

abbrev pub is_sign : ℕ → Token → Bool
is_sign c t = is_sign_kind t.kind && bytes_eq t.text (c ∷ [])

abbrev pub is_word : List ℕ → Token → Bool
is_word w t = is_name_kind t.kind && bytes_eq t.text w

-- a name that a program may define
abbrev pub is_free_name : Token → Bool
is_free_name t = is_name_kind t.kind && not (is_reserved t.text)

-- ---- what stands at the beginning of some tokens

-- a label is a name and a colon
abbrev pub has_label : List Token → Bool
has_label [] = false
has_label (t ∷ []) = false
has_label (t ∷ u ∷ ts) = is_free_name t && is_sign 58 u

abbrev pub begins_sign : ℕ → List Token → Bool
begins_sign c [] = false
begins_sign c (t ∷ ts) = is_sign c t

abbrev pub begins_word : List ℕ → List Token → Bool
begins_word w [] = false
begins_word w (t ∷ ts) = is_word w t
