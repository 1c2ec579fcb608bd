-- One rewriting of the text ahead: its first piece is replaced by what it stands for, or comes out (after the MCS-96 Macro
-- Assembler User's Guide, "Macros" and "Conditional Assembly"; the codes of faults are this kit's own).
use Rattle.std.specs.Prelude.{◌≡◌, ℕ, suc, ◌+◌, ◌-◌, ◌^◌, ◌≤◌, Bool, true, false, not, ◌&&◌, ◌||◌, ◌==◌, nat_lt, nat_le, if◌then◌else◌, List, [], ◌∷◌, ◌++◌, length, drop, take, map, count_by, min, Option, Some, None, is_some, Result, Ok, Err}
use Rattle.std.specs.List.{filter}
use Rattle.std.specs.FinMap as fm
use Rattle.kc_lex.specs.declared.token.Token.{Token}
use Rattle.kc_lex.specs.declared.token.Line.{Line}
use Rattle.kc_macro_body.specs.declared.words.Word.{Word}
use Rattle.kc_macro_body.specs.declared.words.Word.TheVariants as words
use Rattle.kc_macro_body.specs.declared.macros.Macro.{Macro}
use Rattle.kc_lex.specs.Kinds.{has_label}
use Rattle.kc_lex.specs.Codes.{lesser_number, no_statement, no_end, many_lines, too_deep, no_match, many_arguments}
use Rattle.kc_macro_body.specs.Words.{unlabelled, behind_label}
use Rattle.kc_macro_body.specs.Arguments.{arguments, definition, over_arguments}
use Rattle.kc_macro_body.specs.Bodies.{macro_of, only}
use Rattle.kc_base.specs.ByName.{ByName}
use Rattle.kc_macro_body.specs.Calls.{called}
use Rattle.kc_macro_input.specs.declared.piece.Mark.{Mark}
use Rattle.kc_macro_input.specs.declared.piece.Mark.TheVariants.{Call, Turns, If}
use Rattle.kc_macro_input.specs.declared.piece.Piece.{Piece}
use Rattle.kc_macro_input.specs.declared.piece.Extent.TheVariants.{Body}
use Rattle.kc_macro_input.specs.Pieces.{is_call, is_if, innermost, marked, left_out, body_line, is_line, texts_of, repeated}
use Rattle.kc_macro_input.specs.Cuts.{Cut, cut_at, kept}
use Rattle.kc_macro_input.specs.Filled.{Filled, fill_body, fill_turns}
use Rattle.kc_macro.specs.declared.state.State.{State}
use Rattle.kc_macro.specs.declared.state.Step.{Step}
use Rattle.kc_macro.specs.declared.state.Step.TheVariants as steps
use Rattle.kc_macro.specs.Operands.{operand, number_of, noted}

-- what one rewriting leads to: a fault, the end, or a further state; Counted where it was one more expanded line
pub data Next : Type 0 where
  Fault : (line code : ℕ) → Next
  Ended : (lines : List Line) → Next
  Quiet : (state : State) → Next
  Counted : (state : State) → Next

-- one more expanded line, at the line with this number
abbrev pub counted : ℕ → State → Next
counted number s = if s.left == 0 then Fault number many_lines else Counted (record s { left = s.left - 1 })

-- ---- codes of faults

abbrev pub code_if : Bool → ℕ → Option ℕ
code_if b code = if b then Some code else None

abbrev pub code_of : Result ℕ ℕ → Option ℕ
code_of (Ok n) = None
code_of (Err code) = Some code

-- the least code where the end of a construct is missing
abbrev pub least_unmatched : Option ℕ → ℕ
least_unmatched None = no_match
least_unmatched (Some code) = min code no_match

-- ---- IF: at most 16, one in the other

abbrev pub if_next : State → ℕ → Option ℕ → Option (List Piece × List Piece) → Next
if_next s number fault None = Fault number (least_unmatched fault)
if_next s number (Some code) (Some p) = Fault number code
if_next s number None (Some p) = Quiet (record s { ahead = map (marked If) p.0 ++ p.1 })

abbrev pub if_fault : List Mark → Result ℕ ℕ → Option ℕ
if_fault from value = lesser_number (code_if (nat_le 16 (count_by is_if from)) too_deep) (code_of value)

abbrev pub if_step : State → ℕ → List Mark → Result ℕ ℕ → Next
if_step s number from value = if_next s number (if_fault from value) (kept (not (number_of value == 0)) s.ahead)

-- ---- turns of REPT and IRP: each begins at a place of its own, which counts as an expanded line, the first at once

-- the lines of a body, without the places where turns begin
abbrev pub turn_lines : ℕ → List Piece → List Piece
turn_lines left prefix = map (marked (Turns left)) (filter is_line prefix)

abbrev pub turn_head : ℕ → ℕ → List Mark → Piece
turn_head left number from = record { number = number; from = Turns left ∷ from; tokens = None }

-- so many turns of the same lines
abbrev pub same_turns : State → ℕ → List Mark → ℕ → Filled → Next
same_turns s number from n (Err f) = Fault f.0 f.1
same_turns s number from n (Ok ps) = counted number (record s { ahead = ps ++ (repeated (n - 1) (turn_head s.left number from ∷ ps) ++ s.ahead) })

abbrev pub turns_of : State → ℕ → List Mark → ℕ → List Piece → Next
turns_of s number from n prefix =
    if n == 0 then Quiet s
    else same_turns s number from n (fill_body (only []) [] 0 (turn_lines s.left prefix))

abbrev pub rept_next : State → ℕ → List Mark → Result ℕ ℕ → Option Cut → Next
rept_next s number from value None = Fault number (least_unmatched (code_of value))
rept_next s number from (Err code) (Some cut) = Fault number code
rept_next s number from (Ok n) (Some cut) = turns_of (record s { ahead = cut.rest }) number from n cut.prefix

abbrev pub rept_step : State → ℕ → List Mark → Result ℕ ℕ → Next
rept_step s number from value = rept_next s number from value (cut_at Body 0 s.ahead)

-- the turns over some arguments
abbrev pub begun : State → ℕ → Filled → Next
begun s number (Err f) = Fault f.0 f.1
begun s number (Ok []) = Quiet s
begun s number (Ok (head ∷ ps)) = counted number (record s { ahead = ps ++ s.ahead })

abbrev pub over_turns : State → ℕ → List Mark → List ℕ × List (List Token) → List Piece → Next
over_turns s number from f prefix = begun s number (fill_turns (only (f.0 ∷ [])) (turn_head s.left number from) (turn_lines s.left prefix) f.1)

abbrev pub irp_next : State → ℕ → List Mark → Option (List ℕ × List (List Token)) → Option Cut → Next
irp_next s number from None cut = Fault number no_match
irp_next s number from (Some f) None = Fault number no_match
irp_next s number from (Some f) (Some cut) = over_turns (record s { ahead = cut.rest }) number from f cut.prefix

abbrev pub irp_step : State → ℕ → List Mark → Option (List ℕ × List (List Token)) → Next
irp_step s number from f = irp_next s number from f (cut_at Body 0 s.ahead)

-- ---- EXITM leaves out the rest of the innermost call or repetition, with its later turns

abbrev pub exitm_step : State → ℕ → Option Mark → Next
exitm_step s number None = Fault number no_match
exitm_step s number (Some m) = Quiet (record s { ahead = left_out m s.ahead })

-- ---- MACRO

abbrev pub macro_next : State → ℕ → Option (List ℕ × List (List ℕ)) → Option Cut → Next
macro_next s number None cut = Fault number no_match
macro_next s number (Some d) None = Fault number no_match
macro_next s number (Some d) (Some cut) = Quiet (record s { ahead = cut.rest; macros = fm.insert s.macros d.0 (macro_of d.1 (texts_of cut.prefix)) })

abbrev pub macro_step : State → ℕ → Option (List ℕ × List (List ℕ)) → Next
macro_step s number d = macro_next s number d (cut_at Body 0 s.ahead)

-- ---- a call: at most 16, one in the other; it counts as an expanded line

abbrev pub call_text : ℕ → ℕ → ℕ → List Mark → Macro → List (List Token) → Filled
call_text left given number from m args = fill_body m.formals args given (map (body_line number (Call left ∷ from)) m.body)

abbrev pub text_code : Filled → Option ℕ
text_code (Ok ps) = None
text_code (Err f) = Some f.1

-- a name has at most 31 characters: one for a LOCAL name has two and up to 29 digits
abbrev pub names_run_out : (given count : ℕ) → Bool
names_run_out given count = nat_lt 0 count && nat_le (10 ^ 29) (given + count)

abbrev pub call_fault : ℕ → ℕ → List Mark → Macro → List (List Token) → Filled → Option ℕ
call_fault left given from m args text =
    lesser_number (text_code text)
    (lesser_number (code_if (left == 0) many_lines)
    (lesser_number (code_if (nat_le 16 (count_by is_call from)) too_deep)
    (lesser_number (code_if (not m.sound) no_match)
    (lesser_number (code_if (nat_lt (length m.formals.params) (length args)) many_arguments)
    (code_if (names_run_out given m.formals.locals.count) no_statement)))))

abbrev pub call_next : State → ℕ → ℕ → Option ℕ → Filled → Next
call_next s number locals (Some code) text = Fault number code
call_next s number locals None (Err f) = Fault number f.1
call_next s number locals None (Ok ps) = Counted (record s { ahead = ps ++ s.ahead; left = s.left - 1; given = s.given + locals })

abbrev pub call_step : State → ℕ → List Mark → Macro → List (List Token) → Next
call_step s number from m args =
    let text = call_text s.left s.given number from m args in
    call_next s number m.formals.locals.count (call_fault s.left s.given from m args text) text

-- ---- lines that come out

abbrev pub emitted : ℕ → List Token → State → State
emitted number ts s = record s { done = s.done ++ record { number = number; tokens = ts } ∷ [] }

abbrev pub plain_step : State → ℕ → List Token → Next
plain_step s number ts = counted number (emitted number ts (record s { values = noted ts s.values }))

abbrev pub ended : Next → Next
ended (Fault line code) = Fault line code
ended (Ended lines) = Ended lines
ended (Quiet s) = Ended s.done
ended (Counted s) = Ended s.done

abbrev pub end_step : State → ℕ → List Token → Next
end_step s number ts = ended (counted number (emitted number ts s))

-- a label before a construct becomes a line of its own; what stands behind it is looked at next
abbrev pub label_step : State → ℕ → List Mark → List Token → Next
label_step s number from ts =
    counted number (emitted number (take 2 ts) (record s { ahead = record { number = number; from = from; tokens = Some (drop 2 ts) } ∷ s.ahead; labelled = true }))

-- ---- one rewriting

abbrev pub other_step : State → ℕ → List Mark → List Token → Option Macro → Next
other_step s number from ts None = plain_step s number ts
other_step s number from ts (Some m) = call_step s number from m (arguments (drop 1 ts))

abbrev pub word_step : State → ℕ → List Mark → List Token → Word → Next
word_step s number from ts words.Macro = macro_step s number (definition ts)
word_step s number from ts words.Exitm = exitm_step s number (innermost from)
word_step s number from ts words.If = if_step s number from (operand (drop 1 ts) s.values)
word_step s number from ts words.Rept = rept_step s number from (operand (drop 1 ts) s.values)
word_step s number from ts words.Irp = irp_step s number from (over_arguments (drop 1 ts))
word_step s number from ts words.End = end_step s number ts
word_step s number from ts words.Other = other_step s number from ts (called s.macros ts)
word_step s number from ts words.Local = Fault number no_match
word_step s number from ts words.Else = Fault number no_match
word_step s number from ts words.Endif = Fault number no_match
word_step s number from ts words.Endm = Fault number no_match

abbrev pub is_construct : Word → Bool
is_construct words.If = true
is_construct words.Rept = true
is_construct words.Irp = true
is_construct w = false

abbrev pub is_end : Word → Bool
is_end words.End = true
is_end w = false

-- whether what stands behind a label is replaced
abbrev pub is_replaced : ByName Macro → List Token → Bool
is_replaced macros ts = is_construct (behind_label ts) || is_some (called macros ts)

abbrev pub labelled_step : State → ℕ → List Mark → List Token → Next
labelled_step s number from ts =
    if is_replaced s.macros (drop 2 ts) then label_step s number from ts
    else if is_end (behind_label (drop 2 ts)) then end_step s number ts
    else plain_step s number ts

-- a line of which the label has come out has no other
unfoldable pub line_step : State → Bool → ℕ → List Mark → List Token → Next
line_step s labelled number from ts =
    if labelled then word_step s number from ts (behind_label ts)
    else if has_label ts then labelled_step s number from ts
    else word_step s number from ts (unlabelled ts)

-- with no tokens a turn begins
abbrev pub piece_step : State → Bool → ℕ → List Mark → Option (List Token) → Next
piece_step s labelled number from None = counted number s
piece_step s labelled number from (Some ts) = line_step s labelled number from ts

-- a source without END is faulty at the line after its last
abbrev pub prefix_step : State → List Piece → Next
prefix_step s [] = Fault s.end no_end
prefix_step s (p ∷ ps) = piece_step (record s { ahead = ps; labelled = false }) s.labelled p.number p.from p.tokens

abbrev pub step : State → Next
step s = prefix_step s s.ahead

-- what one step of the code did
abbrev pub next_of : Step → State → Next
next_of steps.Quiet s = Quiet s
next_of steps.Counted s = Counted s
next_of steps.Ended s = Ended s.done
next_of (steps.Fault line code) s = Fault line code

-- an expanded line takes one of those that are left, and no more lines come out than these
abbrev pub TakesOne : Step → State → State → Type 0
TakesOne steps.Quiet s t = ⊥
TakesOne steps.Counted s t = (suc t.left ≡ s.left) × (length t.done + t.left ≤ length s.done + s.left)
TakesOne steps.Ended s t = length t.done ≤ length s.done + s.left
TakesOne (steps.Fault line code) s t = Unit {0}
