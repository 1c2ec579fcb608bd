-- How the rewriting of a source goes on from place to place (this kit's own).
use Rattle.std.specs.Prelude.{◌≡◌, ℕ, zero, suc, Bool, true, false, nat_lt, if◌then◌else◌, List, Option, Some, None, Err, ◌⊎◌}
use Rattle.std.specs.List.{list_all}
use Rattle.kc_lex.specs.declared.token.Token.{Token}
use Rattle.kc_lex.specs.declared.token.Line.{Line}
use Rattle.kc_lex.specs.Kinds.{has_label}
use Rattle.kc_macro_body.specs.declared.words.Word.{Word}
use Rattle.kc_macro_body.specs.Words.{unlabelled, behind_label}
use Rattle.kc_macro_input.specs.declared.piece.Mark.{Mark}
use Rattle.kc_macro_input.specs.declared.piece.Mark.TheVariants.{Call, Turns, If}
use Rattle.kc_macro_input.specs.declared.piece.Piece.{Piece}
use Rattle.kc_macro.specs.declared.state.State.{State}
use Rattle.kc_macro.specs.Steps.{Quiet, Counted, step}
use Rattle.kc_macro.specs.Expansion.{Answer, run_out, start}

-- one rewriting leads from one place to the next
abbrev pub Goes : State → State → Type 0
Goes s t = (step s ≡ Quiet t) ⊎ (step s ≡ Counted t)

-- so many of them
unfoldable pub GoesBy : ℕ → State → State → Type 0
GoesBy zero s u = s ≡ u
GoesBy (suc n) s u = (t : State) × (Goes s t × GoesBy n t u)

abbrev pub Leads : State → State → Type 0
Leads s u = (n : ℕ) × GoesBy n s u

-- the rewriting of some source comes there
abbrev pub IsReached : State → Type 0
IsReached s = (lines : List Line) × Leads (start lines) s

-- ---- places

-- the place with this text ahead
abbrev pub at_text : State → List Piece → State
at_text s ps = record s { ahead = ps }

-- the same, where no label of the first line has come out
abbrev pub on_text : State → List Piece → State
on_text s ps = record s { ahead = ps; labelled = false }

-- as which word the first line is matched: behind its label where that has come out; none where it has one that has not
abbrev pub matched : Bool → List Token → Option Word
matched labelled ts = if labelled then Some (behind_label ts) else if has_label ts then None else Some (unlabelled ts)

-- one more expanded line, from nowhere: as a call counts, and each turn of a repetition
abbrev pub one_counted : ℕ → List Mark → Piece
one_counted number from = record { number = number; from = from; tokens = None }

-- ---- marks say from which calls and repetitions a line comes; each new one is named by how many lines are left then

abbrev pub is_older : ℕ → Mark → Bool
is_older left (Call n) = nat_lt left n
is_older left (Turns n) = nat_lt left n
is_older left If = true

-- no mark ahead is one that is still to be given
abbrev pub HasOldMarks : State → Type 0
HasOldMarks s = list_all (λ p. list_all (is_older s.left) p.from) s.ahead ≡ true

-- ---- answers

-- one macro or IF too many within the other
abbrev pub IsTooDeep : Answer → Type 0
IsTooDeep a = (line : ℕ) × (a ≡ Some (Err (line, 5)))

-- what is rewritten has the answer of what it is rewritten to
abbrev pub RewritingKeepsTheAnswer : Type 0
RewritingKeepsTheAnswer = (s u : State) → Leads s u → run_out s ≡ run_out u

abbrev pub ReachedMarksAreOld : Type 0
ReachedMarksAreOld = (s : State) → IsReached s → HasOldMarks s
