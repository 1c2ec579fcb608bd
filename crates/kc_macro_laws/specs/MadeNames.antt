-- Each word of a text is a name: at most 31 characters, as objects have them (after the MCS-96 Macro Assembler User's Guide,
-- "Symbols").
use Rattle.std.specs.Prelude.{◌≡◌, ℕ, ◌<◌, ◌^◌, Bool, true, not, ◌||◌, List, Ok}
use Rattle.std.specs.List.{list_all}
use Rattle.kc_lex.specs.declared.token.Token.{Token}
use Rattle.kc_lex.specs.declared.token.Line.{Line}
use Rattle.kc_lex.specs.Kinds.{is_name_kind}
use Rattle.kc_lex.specs.Lines.{lines_of}
use Rattle.kc_obj_module.specs.Names.{is_name}
use Rattle.kc_macro.specs.declared.state.State.{State}
use Rattle.kc_macro_laws.specs.Ends.{EndsAt}

-- a word is a name; other tokens are none
abbrev pub is_named : Token → Bool
is_named t = not (is_name_kind t.kind) || is_name t.text

abbrev pub has_names : Line → Bool
has_names l = list_all is_named l.tokens

abbrev pub LinesHaveNames : Type 0
LinesHaveNames = (text : List ℕ) (lines : List Line) → lines_of text ≡ Ok lines → list_all has_names lines ≡ true

abbrev pub ExpansionMakesNames : Type 0
ExpansionMakesNames =
    (lines out : List Line) (s : State) → EndsAt lines s out → list_all has_names lines ≡ true → list_all has_names out ≡ true

-- a name that is given for a LOCAL name has two characters more than its number, or six
abbrev pub LocalNamesAreFew : Type 0
LocalNamesAreFew = (lines out : List Line) (s : State) → EndsAt lines s out → s.given < 10 ^ 29
