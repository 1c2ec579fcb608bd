-- A law of expansion: what has no construct and calls no macro comes out as it stands.
use Rattle.std.specs.Prelude.{◌≡◌, ◌<◌, Bool, true, List, [], ◌∷◌, ◌++◌, length, Some, Ok}
use Rattle.std.specs.List.{list_all}
use Rattle.kc_lex.specs.declared.token.Line.{Line}
use Rattle.kc_macro_body.specs.declared.words.Word.TheVariants.{End}
use Rattle.kc_macro_body.specs.Words.{word_of, is_other}
use Rattle.kc_macro.specs.Expansion.{expanded}

-- a line that is no construct, no definition and no END
abbrev pub is_plain : Line → Bool
is_plain l = is_other (word_of l.tokens)

-- plain lines up to END are their own expansion; what stands behind END is cut off
abbrev pub PlainLinesStay : Type 0
PlainLinesStay = (lines : List Line) (end : Line) (rest : List Line) → list_all is_plain lines ≡ true → word_of end.tokens ≡ End → length lines < 65535 → expanded (lines ++ end ∷ rest) ≡ Some (Ok (lines ++ end ∷ []))
