-- What expansion keeps of the tokens of a source. Tokens that come out are tokens of the source, names that `&` joins, and names
-- that are given for LOCAL names (after the MCS-96 Macro Assembler User's Guide, "Macros").
use Rattle.std.specs.Prelude.{◌≡◌, ℕ, ◌≤◌, Bool, true, ◌&&◌, List}
use Rattle.std.specs.List.{list_all}
use Rattle.kc_lex.specs.declared.token.Token.{Token}
use Rattle.kc_lex.specs.declared.token.Line.{Line}
use Rattle.kc_lex.specs.Chars.{upper}
use Rattle.kc_lex.specs.Words.{is_name_text}
use Rattle.kc_macro_body.specs.Filling.{name_token, local_name}
use Rattle.kc_macro.specs.declared.state.State.{State}
use Rattle.kc_macro_laws.specs.Ends.{EndsAt}

-- the number of a line, and each of its tokens, pass a test
abbrev pub line_passes : (ℕ → Bool) → (Token → Bool) → Line → Bool
line_passes numbers test l = numbers l.number && list_all test l.tokens

-- each name that is made passes, where so many are given for LOCAL names
pub record NamesPass (test : Token → Bool) (given : ℕ) : Type 0 where
  pub of_joins : (text : List ℕ) → is_name_text text ≡ true → test (name_token (upper text)) ≡ true
  pub of_locals : (n : ℕ) → n ≤ given → test (name_token (local_name n)) ≡ true

-- then each token that comes out passes where those of the source do, and each line has the number of one of them
abbrev pub ExpansionKeepsTests : Type 0
ExpansionKeepsTests =
    (numbers : ℕ → Bool) (test : Token → Bool) (lines out : List Line) (s : State) → EndsAt lines s out → NamesPass test s.given
    → list_all (line_passes numbers test) lines ≡ true → list_all (line_passes numbers test) out ≡ true
