-- The names that stand for LOCAL names: each call has its own (after the MCS-96 Macro Assembler User's Guide, "Macros").
use Rattle.std.specs.Prelude.{◌≡◌, ◌≢◌, ℕ, true, List, ◌∷◌, drop, is_some}
use Rattle.std.specs.FinMap as fm
use Rattle.kc_lex.specs.declared.token.Token.{Token}
use Rattle.kc_lex.specs.Kinds.{is_name_kind}
use Rattle.kc_macro_body.specs.declared.macros.Macro.{Macro}
use Rattle.kc_macro_body.specs.Arguments.{arguments}
use Rattle.kc_macro_body.specs.Filling.{stands_for}
use Rattle.kc_macro_input.specs.declared.piece.Mark.{Mark}
use Rattle.kc_macro_input.specs.declared.piece.Piece.{Piece}
use Rattle.kc_macro_input.specs.Pieces.{body_line}
use Rattle.kc_macro.specs.declared.state.State.{State}
use Rattle.kc_macro_laws.specs.Course.{Goes, Leads, IsReached}
use Rattle.kc_macro_laws.specs.Constructs.{IsCall}

-- a place of the rewriting, at a call that goes on to another place
pub record Calls (s : State) (tokens : List Token) (m : Macro) (t : State) : Type 0 where
  pub number : ℕ
  pub from : List Mark
  pub rest : List Piece
  pub reached : IsReached s
  pub next : s.ahead ≡ body_line number from tokens ∷ rest
  pub call : IsCall s tokens m
  pub goes : Goes s t

-- a name that LOCAL declares in the macro
pub record IsLocal (m : Macro) (t : Token) : Type 0 where
  pub name : is_name_kind t.kind ≡ true
  pub declared : is_some (fm.get m.formals.locals.places t.text) ≡ true

-- what stands for a token of the body in the call
abbrev pub in_call : State → List Token → Macro → Token → List Token
in_call s tokens m t = stands_for m.formals (arguments (drop 1 tokens)) s.given t

-- of two calls, one after the other, no LOCAL name has the same name
abbrev pub CallsHaveTheirOwnNames : Type 0
CallsHaveTheirOwnNames = (s t u v : State) (tokens later : List Token) (m w : Macro) (a b : Token) → Calls s tokens m t → Leads t u → Calls u later w v →
    IsLocal m a → IsLocal w b → in_call s tokens m a ≢ in_call u later w b

-- and in one call no two LOCAL names
abbrev pub LocalsHaveTheirOwnNames : Type 0
LocalsHaveTheirOwnNames = (s t : State) (tokens : List Token) (m : Macro) (a b : Token) → Calls s tokens m t →
    IsLocal m a → IsLocal m b → a.text ≢ b.text → in_call s tokens m a ≢ in_call s tokens m b
