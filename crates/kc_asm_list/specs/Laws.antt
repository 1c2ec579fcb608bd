-- Laws of how deep the lines of an expansion stand.
use Rattle.std.specs.Prelude.{◌≡◌, ◌<◌, true, List, [], ◌∷◌, ◌++◌, length, map, Some, None, Ok, Err}
use Rattle.std.specs.List.{list_all}
use Rattle.kc_lex.specs.declared.token.Line.{Line}
use Rattle.kc_macro_body.specs.declared.words.Word.TheVariants.{End}
use Rattle.kc_macro_body.specs.Words.{word_of}
use Rattle.kc_macro.specs.Expansion as expansion
use Rattle.kc_macro.specs.Expansion.{expanded}
use Rattle.kc_macro.specs.Plain.{is_plain}
use Rattle.kc_asm_list.specs.Depths.{Answer, depths_of}

-- as many depths as lines, or one and the same fault
abbrev pub Agree : expansion.Answer → Answer → Type 0
Agree None b = ⊥
Agree (Some a) None = ⊥
Agree (Some (Ok lines)) (Some (Ok depths)) = length depths ≡ length lines
Agree (Some (Ok lines)) (Some (Err f)) = ⊥
Agree (Some (Err f)) (Some (Ok depths)) = ⊥
Agree (Some (Err f)) (Some (Err g)) = g ≡ f

abbrev pub DepthsGoWithLines : Type 0
DepthsGoWithLines = (lines : List Line) → Agree (expanded lines) (depths_of lines)

-- plain lines up to END stand in no call and no repetition
abbrev pub PlainLinesStandAtNone : Type 0
PlainLinesStandAtNone = (lines : List Line) (end : Line) (rest : List Line) → list_all is_plain lines ≡ true → word_of end.tokens ≡ End → length lines < 65535 → depths_of (lines ++ end ∷ rest) ≡ Some (Ok (map (λ l. 0) (lines ++ end ∷ [])))
