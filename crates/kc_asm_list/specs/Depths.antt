-- In how many calls and repetitions each line of an expansion stands (this kit's own).
use Rattle.std.specs.Prelude.{◌≡◌, ℕ, zero, suc, ◌==◌, Bool, true, false, if◌then◌else◌, List, [], ◌∷◌, ◌++◌, length, count_by, Option, Some, None, Result, Ok, Err}
use Rattle.std.specs.Global.{Vec}
use Rattle.kc_lex.specs.declared.token.Line.{Line}
use Rattle.kc_lex.specs.declared.fault.SourceFault.{SourceFault}
use Rattle.kc_lex.specs.declared.fault.SourceFault.TheVariants as faults
use Rattle.kc_macro_input.specs.declared.piece.Mark.{Mark}
use Rattle.kc_macro_input.specs.declared.piece.Mark.TheVariants.{Call, Turns, If}
use Rattle.kc_macro_input.specs.declared.piece.Piece.{Piece}
use Rattle.kc_macro.specs.declared.state.State.{State}
use Rattle.kc_macro.specs.declared.state.Step.{Step}
use Rattle.kc_macro.specs.declared.state.Step.TheVariants as steps
use Rattle.kc_macro.specs.Steps.{Next, Fault, Ended, Quiet, Counted, step}
use Rattle.kc_macro.specs.Expansion as expansion
use Rattle.kc_macro.specs.Expansion.{start}

-- a call or a repetition puts in text of its own; an IF only keeps some
abbrev pub is_text : Mark → Bool
is_text (Call n) = true
is_text (Turns n) = true
is_text If = false

abbrev pub depth : List Mark → ℕ
depth from = count_by is_text from

-- of the first piece ahead
abbrev pub depth_ahead : List Piece → ℕ
depth_ahead [] = 0
depth_ahead (p ∷ ps) = depth p.from

-- how far an expansion has come, and how deep each line stands that came out
pub record Reported : Type 0 where
  pub state : State
  pub depths : List ℕ

abbrev pub so_far : State → List ℕ → Reported
so_far s ds = record { state = s; depths = ds }

-- a line that a rewriting brings out stands as deep as the piece that is rewritten
abbrev pub reported : Reported → List Line → List ℕ
reported t done = if length done == length t.state.done then t.depths else t.depths ++ depth_ahead t.state.ahead ∷ []

abbrev pub Answer : Type 0
Answer = Option (Result (List ℕ) (ℕ × ℕ))

abbrev pub on_next : (Reported → Answer) → (Reported → Answer) → Reported → Next → Answer
on_next next more t (Fault line code) = Some (Err (line, code))
on_next next more t (Ended lines) = Some (Ok (reported t lines))
on_next next more t (Quiet s) = more (so_far s (reported t s.done))
on_next next more t (Counted s) = next (so_far s (reported t s.done))

-- the rewritings are those of the expansion
unfoldable pub settled : (Reported → Answer) → ℕ → Reported → Answer
settled next zero t = None
settled next (suc k) t = on_next next (settled next k) t (step t.state)

unfoldable pub run : ℕ → Reported → Answer
run zero t = None
run (suc n) t = settled (run n) (suc (length t.state.ahead)) t

abbrev pub run_out : Reported → Answer
run_out t = run (suc t.state.left) t

unfoldable pub depths_of : List Line → Answer
depths_of lines = run_out (so_far (start lines) [])

-- ---- what calls answer

abbrev pub AreDepths : Result (Vec ℕ) SourceFault → Answer → Type 0
AreDepths (Ok depths) answer = answer ≡ Some (Ok depths.items)
AreDepths (Err (faults.At line code)) answer = answer ≡ Some (Err (line, code))
AreDepths (Err faults.NoMemory) answer = Unit {0}

-- one for each line of an expansion, or its fault
abbrev pub GoWith : Result (Vec ℕ) SourceFault → expansion.Answer → Type 0
GoWith (Ok depths) answer = (lines : List Line) × (answer ≡ Some (Ok lines)) × (length depths.items ≡ length lines)
GoWith (Err (faults.At line code)) answer = answer ≡ Some (Err (line, code))
GoWith (Err faults.NoMemory) answer = Unit {0}

-- what one rewriting led to that is an expanded line, the end or a fault
abbrev pub led : (Reported → Answer) → Step → Reported → Answer
led next steps.Quiet t = None
led next steps.Counted t = next t
led next steps.Ended t = Some (Ok t.depths)
led next (steps.Fault line code) t = Some (Err (line, code))
