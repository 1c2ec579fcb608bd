-- Whether two expansions differ in marks alone (this kit's own).
use Rattle.std.specs.Prelude.{ℕ, Bool, true, false, ◌&&◌, ◌==◌, if◌then◌else◌, List, [], ◌∷◌}
use Rattle.std.specs.Str.{bytes_eq}
use Rattle.kc_lex.specs.declared.token.TokenKind.{TokenKind}
use Rattle.kc_lex.specs.declared.token.TokenKind.TheVariants as kinds
use Rattle.kc_lex.specs.declared.token.Token.{Token}
use Rattle.kc_lex.specs.declared.token.Line.{Line}
use Rattle.kc_lex.specs.Kinds.{is_sign_kind, is_name_kind, is_number_kind, is_chars_kind}

abbrev pub is_kind : TokenKind → TokenKind → Bool
is_kind kinds.Name k = is_name_kind k
is_kind kinds.Number k = is_number_kind k
is_kind kinds.Chars k = is_chars_kind k
is_kind kinds.Sign k = is_sign_kind k

abbrev pub is_value : TokenKind → ℕ → ℕ → Bool
is_value k v w = if is_number_kind k then v == w else true

abbrev pub is_alike : Token → Token → Bool
is_alike t u = is_kind t.kind u.kind && (bytes_eq t.text u.text && is_value t.kind t.value u.value)

unfoldable pub are_alike : List Token → List Token → Bool
are_alike [] [] = true
are_alike [] (u ∷ us) = false
are_alike (t ∷ ts) [] = false
are_alike (t ∷ ts) (u ∷ us) = is_alike t u && are_alike ts us

abbrev pub is_line_alike : Line → Line → Bool
is_line_alike l m = (l.number == m.number) && are_alike l.tokens m.tokens

unfoldable pub are_lines_alike : List Line → List Line → Bool
are_lines_alike [] [] = true
are_lines_alike [] (m ∷ ms) = false
are_lines_alike (l ∷ ls) [] = false
are_lines_alike (l ∷ ls) (m ∷ ms) = is_line_alike l m && are_lines_alike ls ms
