-- A rewriting brings out one line or none.
use Rattle.std.proofs.Common.{◌≡◌, ◌⊎◌, inl, inr, ℕ, suc, ◌-◌, Bool, true, false, cond, ◌==◌, List, [], ◌∷◌, ◌++◌, length, drop, Option, Some, None, Result, Ok, Err, refl, arith, length-append}
use Rattle.kc_lex.specs.declared.token.Token.{Token}
use Rattle.kc_lex.specs.declared.token.Line.{Line}
use Rattle.kc_lex.specs.Kinds.{has_label}
use Rattle.kc_lex.specs.Codes.{many_lines}
use Rattle.kc_macro_body.specs.declared.words.Word.{Word}
use Rattle.kc_macro_body.specs.declared.words.Word.TheVariants as words
use Rattle.kc_macro_body.specs.declared.macros.Macro.{Macro}
use Rattle.kc_macro_body.specs.Words.{unlabelled, behind_label}
use Rattle.kc_macro_body.specs.Arguments.{definition, over_arguments}
use Rattle.kc_macro_body.specs.Bodies.{only}
use Rattle.kc_macro_body.specs.Calls.{called}
use Rattle.kc_macro_input.specs.declared.piece.Mark.{Mark}
use Rattle.kc_macro_input.specs.declared.piece.Piece.{Piece}
use Rattle.kc_macro_input.specs.declared.piece.Extent.TheVariants.{Body}
use Rattle.kc_macro_input.specs.Pieces.{innermost}
use Rattle.kc_macro_input.specs.Cuts.{Cut, cut_at}
use Rattle.kc_macro_input.specs.Filled.{Filled, fill_body}
use Rattle.kc_macro.specs.declared.state.State.{State}
use Rattle.kc_macro.specs.Steps.{Next, Fault, Ended, Quiet, Counted, counted, if_next, same_turns, turns_of, turn_lines, rept_next, begun, irp_next, exitm_step, macro_next, call_next, emitted, ended, label_step, plain_step, end_step, other_step, word_step, is_replaced, is_end, labelled_step, line_step, piece_step, prefix_step, step}

abbrev pub IsGrown : ℕ → ℕ → Type 0
IsGrown n m = (m ≡ n) ⊎ (m ≡ suc n)

-- so many lines have come out before
abbrev pub Grows : ℕ → Next → Type 0
Grows n (Fault line code) = Unit {0}
Grows n (Ended lines) = IsGrown n (length lines)
Grows n (Quiet s) = IsGrown n (length s.done)
Grows n (Counted s) = IsGrown n (length s.done)

one_more : (lines : List Line) (l : Line) → IsGrown (length lines) (length (lines ++ l ∷ []))
one_more lines l = inr (omega (arith, length-append lines (l ∷ [])))

counted_grows : (n number : ℕ) (s : State) → IsGrown n (length s.done) → Grows n (counted number s)
counted_grows n number s h =
    elim (s.left == 0) as (λ b. Grows n (cond b (Fault number many_lines) (Counted (record s { left = s.left - 1 })))) [
      | true ↦ tt
      | false ↦ h
    ]

ended_grows : (n : ℕ) (x : Next) → Grows n x → Grows n (ended x)
ended_grows n (Fault line code) h = tt
ended_grows n (Ended lines) h = h
ended_grows n (Quiet s) h = h
ended_grows n (Counted s) h = h

if_grows : (s : State) (number : ℕ) (fault : Option ℕ) (o : Option (List Piece × List Piece)) → Grows (length s.done) (if_next s number fault o)
if_grows s number fault None = tt
if_grows s number (Some code) (Some p) = tt
if_grows s number None (Some p) = inl refl

same_grows : (s : State) (number : ℕ) (from : List Mark) (n : ℕ) (text : Filled) → Grows (length s.done) (same_turns s number from n text)
same_grows s number from n (Err f) = tt
same_grows s number from n (Ok ps) = counted_grows (length s.done) number (record s { ahead = _ }) (inl refl)

turns_grow : (s : State) (number : ℕ) (from : List Mark) (n : ℕ) (prefix : List Piece) → Grows (length s.done) (turns_of s number from n prefix)
turns_grow s number from n prefix =
    let text = fill_body (only []) [] 0 (turn_lines s.left prefix) in
    elim (n == 0) as (λ b. Grows (length s.done) (cond b (Quiet s) (same_turns s number from n text))) [
      | true ↦ inl refl
      | false ↦ same_grows s number from n text
    ]

rept_grows : (s : State) (number : ℕ) (from : List Mark) (value : Result ℕ ℕ) (o : Option Cut) → Grows (length s.done) (rept_next s number from value o)
rept_grows s number from value None = tt
rept_grows s number from (Err code) (Some cut) = tt
rept_grows s number from (Ok n) (Some cut) = turns_grow (record s { ahead = cut.rest }) number from n cut.prefix

begun_grows : (s : State) (number : ℕ) (text : Filled) → Grows (length s.done) (begun s number text)
begun_grows s number (Err f) = tt
begun_grows s number (Ok []) = inl refl
begun_grows s number (Ok (head ∷ ps)) = counted_grows (length s.done) number (record s { ahead = _ }) (inl refl)

irp_grows : (s : State) (number : ℕ) (from : List Mark) (f : Option (List ℕ × List (List Token))) (o : Option Cut) → Grows (length s.done) (irp_next s number from f o)
irp_grows s number from None o = tt
irp_grows s number from (Some f) None = tt
irp_grows s number from (Some f) (Some cut) = begun_grows (record s { ahead = cut.rest }) number _

exitm_grows : (s : State) (number : ℕ) (o : Option Mark) → Grows (length s.done) (exitm_step s number o)
exitm_grows s number None = tt
exitm_grows s number (Some m) = inl refl

macro_grows : (s : State) (number : ℕ) (d : Option (List ℕ × List (List ℕ))) (o : Option Cut) → Grows (length s.done) (macro_next s number d o)
macro_grows s number None o = tt
macro_grows s number (Some d) None = tt
macro_grows s number (Some d) (Some cut) = inl refl

call_grows : (s : State) (number locals : ℕ) (fault : Option ℕ) (text : Filled) → Grows (length s.done) (call_next s number locals fault text)
call_grows s number locals (Some code) text = tt
call_grows s number locals None (Err f) = tt
call_grows s number locals None (Ok ps) = inl refl

plain_grows : (s : State) (number : ℕ) (ts : List Token) → Grows (length s.done) (plain_step s number ts)
plain_grows s number ts = counted_grows (length s.done) number (record s { done = _; values = _ }) (one_more s.done _)

end_grows : (s : State) (number : ℕ) (ts : List Token) → Grows (length s.done) (end_step s number ts)
end_grows s number ts = ended_grows (length s.done) (counted number (emitted number ts s)) (counted_grows (length s.done) number (emitted number ts s) (one_more s.done _))

label_grows : (s : State) (number : ℕ) (from : List Mark) (ts : List Token) → Grows (length s.done) (label_step s number from ts)
label_grows s number from ts = counted_grows (length s.done) number (record s { done = _; ahead = _; labelled = true }) (one_more s.done _)

other_grows : (s : State) (number : ℕ) (from : List Mark) (ts : List Token) (o : Option Macro) → Grows (length s.done) (other_step s number from ts o)
other_grows s number from ts None = plain_grows s number ts
other_grows s number from ts (Some m) = call_grows s number m.formals.locals.count _ _

word_grows : (s : State) (number : ℕ) (from : List Mark) (ts : List Token) (w : Word) → Grows (length s.done) (word_step s number from ts w)
word_grows s number from ts words.Macro = macro_grows s number (definition ts) (cut_at Body 0 s.ahead)
word_grows s number from ts words.Exitm = exitm_grows s number (innermost from)
word_grows s number from ts words.If = if_grows s number _ _
word_grows s number from ts words.Rept = rept_grows s number from _ (cut_at Body 0 s.ahead)
word_grows s number from ts words.Irp = irp_grows s number from (over_arguments (drop 1 ts)) (cut_at Body 0 s.ahead)
word_grows s number from ts words.End = end_grows s number ts
word_grows s number from ts words.Other = other_grows s number from ts (called s.macros ts)
word_grows s number from ts words.Local = tt
word_grows s number from ts words.Else = tt
word_grows s number from ts words.Endif = tt
word_grows s number from ts words.Endm = tt

labelled_grows : (s : State) (number : ℕ) (from : List Mark) (ts : List Token) → Grows (length s.done) (labelled_step s number from ts)
labelled_grows s number from ts =
    elim (is_replaced s.macros (drop 2 ts)) as (λ b. Grows (length s.done) (cond b (label_step s number from ts) (cond (is_end (behind_label (drop 2 ts))) (end_step s number ts) (plain_step s number ts)))) [
      | true ↦ label_grows s number from ts
      | false ↦ elim (is_end (behind_label (drop 2 ts))) as (λ b. Grows (length s.done) (cond b (end_step s number ts) (plain_step s number ts))) [
        | true ↦ end_grows s number ts
        | false ↦ plain_grows s number ts
      ]
    ]

line_grows : (s : State) (labelled : Bool) (number : ℕ) (from : List Mark) (ts : List Token) → Grows (length s.done) (line_step s labelled number from ts)
unfolding line_step
line_grows s true number from ts = word_grows s number from ts (behind_label ts)
line_grows s false number from ts =
    elim (has_label ts) as (λ b. Grows (length s.done) (cond b (labelled_step s number from ts) (word_step s number from ts (unlabelled ts)))) [
      | true ↦ labelled_grows s number from ts
      | false ↦ word_grows s number from ts (unlabelled ts)
    ]

piece_grows : (s : State) (labelled : Bool) (number : ℕ) (from : List Mark) (o : Option (List Token)) → Grows (length s.done) (piece_step s labelled number from o)
piece_grows s labelled number from None = counted_grows (length s.done) number s (inl refl)
piece_grows s labelled number from (Some ts) = line_grows s labelled number from ts

prefix_grows : (s : State) (ps : List Piece) → Grows (length s.done) (prefix_step s ps)
prefix_grows s [] = tt
prefix_grows s (p ∷ ps) = piece_grows (record s { ahead = ps; labelled = false }) s.labelled p.number p.from p.tokens

pub step_grows : (s : State) → Grows (length s.done) (step s)
step_grows s = prefix_grows s s.ahead
