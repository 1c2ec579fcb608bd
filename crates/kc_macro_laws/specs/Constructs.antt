-- What stands for a construct, in the words of the language: a repetition is its turns, a call its body, an IF its part
-- (after the MCS-96 Macro Assembler User's Guide, "Macros" and "Conditional Assembly").
use Rattle.std.specs.Prelude.{◌≡◌, ℕ, ◌+◌, ◌<◌, ◌≤◌, Bool, true, false, not, ◌&&◌, ◌==◌, nat_le, if◌then◌else◌, List, [], ◌∷◌, ◌++◌, length, drop, map, Some, Ok, ◌⊎◌}
use Rattle.std.specs.List.{list_all, list_any, filter}
use Rattle.std.specs.FinMap as fm
use Rattle.kc_lex.specs.declared.token.Token.{Token}
use Rattle.kc_macro_body.specs.declared.words.Word.{Word}
use Rattle.kc_macro_body.specs.declared.words.Word.TheVariants as words
use Rattle.kc_macro_body.specs.declared.macros.Macro.{Macro}
use Rattle.kc_macro_body.specs.Words.{word_of, is_local, is_endm, is_else, is_endif}
use Rattle.kc_macro_body.specs.Arguments.{arguments, definition, over_arguments}
use Rattle.kc_macro_body.specs.Bodies.{macro_of, only}
use Rattle.kc_macro_body.specs.Calls.{called}
use Rattle.kc_macro_body.specs.Filling.{is_join}
use Rattle.kc_macro_input.specs.declared.piece.Mark.{Mark}
use Rattle.kc_macro_input.specs.declared.piece.Piece.{Piece}
use Rattle.kc_macro_input.specs.Pieces.{body_line, is_line, texts_of, word_at, repeated}
use Rattle.kc_macro_input.specs.Filled.{fill_body, fill_turns}
use Rattle.kc_macro.specs.declared.state.State.{State}
use Rattle.kc_macro.specs.Operands.{operand}
use Rattle.kc_macro.specs.Steps.{names_run_out}
use Rattle.kc_macro.specs.Expansion.{run_out}
use Rattle.kc_macro_laws.specs.Course.{at_text, on_text, matched, one_counted, HasOldMarks, IsTooDeep}
use Rattle.kc_macro_laws.specs.Nests.{Is, IsWholeBody, IsWholePart}

abbrev pub is_exitm : Word → Bool
is_exitm words.Exitm = true
is_exitm w = false

-- no line is an EXITM
abbrev pub has_no_exitm : List Piece → Bool
has_no_exitm ps = list_all (λ p. not (is_exitm (word_at p.tokens))) ps

-- ---- repetitions

-- a construct with a body: its first line, the body, its ENDM, and what follows
pub record Block : Type 0 where
  pub number : ℕ
  pub from : List Mark
  pub tokens : List Token
  pub body : List Piece
  pub last : Piece
  pub rest : List Piece

abbrev pub text_of : Block → List Piece
text_of b = body_line b.number b.from b.tokens ∷ (b.body ++ b.last ∷ b.rest)

-- it is matched as this word, and its body is whole
pub record IsBlock (s : State) (w : Word) (b : Block) : Type 0 where
  pub first : matched s.labelled b.tokens ≡ Some w
  pub body : IsWholeBody b.body
  pub last : Is is_endm b.last

-- the lines of a body, with what their `&` join
abbrev pub IsJoined : List Piece → List Piece → Type 0
IsJoined body copy = fill_body (only []) [] 0 (filter is_line body) ≡ Ok copy

-- a REPT of n is n copies of its body, each of which counts as one more line
abbrev pub ReptIsCopies : Type 0
ReptIsCopies = (s : State) (b : Block) (n : ℕ) (copy : List Piece) → IsBlock s words.Rept b → HasOldMarks (at_text s (text_of b)) →
    operand (drop 1 b.tokens) s.values ≡ Ok n → (0 < n → IsJoined b.body copy) → has_no_exitm copy ≡ true →
    run_out (at_text s (text_of b)) ≡ run_out (on_text s (repeated n (one_counted b.number b.from ∷ copy) ++ b.rest))

-- an IRP is a copy of its body for each argument, which stands there for the parameter
abbrev pub IrpIsCopies : Type 0
IrpIsCopies = (s : State) (b : Block) (name : List ℕ) (args : List (List Token)) (copies : List Piece) → IsBlock s words.Irp b →
    HasOldMarks (at_text s (text_of b)) → over_arguments (drop 1 b.tokens) ≡ Some (name, args) →
    fill_turns (only (name ∷ [])) (one_counted b.number b.from) (filter is_line b.body) args ≡ Ok copies → has_no_exitm copies ≡ true →
    run_out (at_text s (text_of b)) ≡ run_out (on_text s (copies ++ b.rest))

-- ---- macros

-- a definition leaves nothing but the macro
abbrev pub MacroIsDefined : Type 0
MacroIsDefined = (s : State) (b : Block) (name : List ℕ) (params : List (List ℕ)) → IsBlock s words.Macro b → definition b.tokens ≡ Some (name, params) →
    run_out (at_text s (text_of b)) ≡ run_out (record (on_text s b.rest) { macros = fm.insert s.macros name (macro_of params (texts_of b.body)) })

-- a line calls a macro
pub record IsCall (s : State) (tokens : List Token) (m : Macro) : Type 0 where
  pub first : matched s.labelled tokens ≡ Some words.Other
  pub named : called s.macros tokens ≡ Some m
  pub sound : m.sound ≡ true
  pub few : length (arguments (drop 1 tokens)) ≤ length m.formals.params

-- a call whose LOCAL names do not run out is its body with the arguments and LOCAL names in it, and counts as one more line
abbrev pub CallIsItsBody : Type 0
CallIsItsBody = (s : State) (number : ℕ) (from : List Mark) (tokens : List Token) (rest : List Piece) (m : Macro) (copy : List Piece) →
    IsCall s tokens m → names_run_out s.given m.formals.locals.count ≡ false → HasOldMarks (at_text s (body_line number from tokens ∷ rest)) →
    fill_body m.formals (arguments (drop 1 tokens)) s.given (map (body_line number from) m.body) ≡ Ok copy → has_no_exitm copy ≡ true →
    (run_out (at_text s (body_line number from tokens ∷ rest))
    ≡ run_out (record (on_text s (one_counted number from ∷ (copy ++ rest))) { given = s.given + m.formals.locals.count }))
    ⊎ IsTooDeep (run_out (at_text s (body_line number from tokens ∷ rest)))

-- a line that stays as it is in a body without parameters: it has no `&`, is no LOCAL and no EXITM, and is not too long
abbrev pub is_kept : List Token → Bool
is_kept ts = not (list_any is_join ts) && (not (is_local (word_of ts)) && (not (is_exitm (word_of ts)) && nat_le (length ts) 255))

-- a macro of such lines is called by its name alone, and the call is its lines
abbrev pub PlainCallIsItsLines : Type 0
PlainCallIsItsLines = (s : State) (number : ℕ) (from : List Mark) (name : Token) (rest : List Piece) (lines : List (List Token)) →
    matched s.labelled (name ∷ []) ≡ Some words.Other → called s.macros (name ∷ []) ≡ Some (macro_of [] lines) → list_all is_kept lines ≡ true →
    HasOldMarks (at_text s (body_line number from (name ∷ []) ∷ rest)) →
    (run_out (at_text s (body_line number from (name ∷ []) ∷ rest))
    ≡ run_out (on_text s (one_counted number from ∷ (map (body_line number from) lines ++ rest))))
    ⊎ IsTooDeep (run_out (at_text s (body_line number from (name ∷ []) ∷ rest)))

-- ---- conditions

-- an IF with two parts, and what follows
pub record Choice : Type 0 where
  pub number : ℕ
  pub from : List Mark
  pub tokens : List Token
  pub part : List Piece
  pub mid : Piece
  pub other : List Piece
  pub last : Piece
  pub rest : List Piece

abbrev pub with_else : Choice → List Piece
with_else i = body_line i.number i.from i.tokens ∷ (i.part ++ i.mid ∷ (i.other ++ i.last ∷ i.rest))

abbrev pub without_else : Choice → List Piece
without_else i = body_line i.number i.from i.tokens ∷ (i.part ++ i.last ∷ i.rest)

-- it is matched as an IF whose operand has this value, and its parts are whole
pub record IsChoice (s : State) (i : Choice) (value : ℕ) : Type 0 where
  pub first : matched s.labelled i.tokens ≡ Some words.If
  pub operand_is : operand (drop 1 i.tokens) s.values ≡ Ok value
  pub part : IsWholePart i.part
  pub mid : Is is_else i.mid
  pub other : IsWholePart i.other
  pub last : Is is_endif i.last

-- an IF is the part that its value keeps; the other part leaves nothing
abbrev pub IfElseIsItsPart : Type 0
IfElseIsItsPart = (s : State) (i : Choice) (value : ℕ) → IsChoice s i value →
    (run_out (at_text s (with_else i)) ≡ run_out (on_text s ((if value == 0 then i.other else i.part) ++ i.rest)))
    ⊎ IsTooDeep (run_out (at_text s (with_else i)))

abbrev pub IfIsItsPart : Type 0
IfIsItsPart = (s : State) (i : Choice) (value : ℕ) → IsChoice s i value →
    (run_out (at_text s (without_else i)) ≡ run_out (on_text s ((if value == 0 then [] else i.part) ++ i.rest)))
    ⊎ IsTooDeep (run_out (at_text s (without_else i)))
