-- Expansion leaves at most 65,535 lines.
use Rattle.std.proofs.Common.{◌≡◌, ℕ, zero, suc, ◌+◌, ◌≤◌, List, length, Option, Some, None, Ok, Err, subst, arith}
use Rattle.kc_lex.specs.declared.token.Line.{Line}
use Rattle.kc_macro.specs.declared.state.State.{State}
use Rattle.kc_macro.specs.Steps.{Next, Fault, Ended, Quiet, Counted, step}
use Rattle.kc_macro.specs.Expansion.{Answer, on_next, settled, run, run_out, start, expanded}
use Rattle.kc_macro.proofs.Soundness.{IsStrict, step_strict}

abbrev IsFew : State → Type 0
IsFew s = length s.done + s.left ≤ 65535

abbrev NextFew : Next → Type 0
NextFew (Fault line code) = Unit {0}
NextFew (Ended lines) = length lines ≤ 65535
NextFew (Quiet t) = IsFew t
NextFew (Counted t) = IsFew t

next_few : (done len left : ℕ) (n : Next) → done + left ≤ 65535 → IsStrict done len left n → NextFew n
next_few done len left (Fault line code) h k = tt
next_few done len left (Ended lines) h k = omega (arith, h, k)
next_few done len left (Quiet t) h k = omega (arith, h, k.1.0, k.1.1)
next_few done len left (Counted t) h k = omega (arith, h, k.0, k.1)

step_few : (s : State) → IsFew s → NextFew (step s)
step_few s h = next_few (length s.done) (length s.ahead) s.left (step s) h (step_strict s)

abbrev AnswerFew : Answer → Type 0
AnswerFew None = Unit {0}
AnswerFew (Some (Ok lines)) = length lines ≤ 65535
AnswerFew (Some (Err f)) = Unit {0}

on_few : (next more : State → Answer) (n : Next) → NextFew n → ((t : State) → IsFew t → AnswerFew (next t)) → ((t : State) → IsFew t → AnswerFew (more t)) → AnswerFew (on_next next more n)
on_few next more (Fault line code) h f g = tt
on_few next more (Ended lines) h f g = h
on_few next more (Quiet t) h f g = g t h
on_few next more (Counted t) h f g = f t h

settled_few : (next : State → Answer) (k : ℕ) (s : State) → IsFew s → ((t : State) → IsFew t → AnswerFew (next t)) → AnswerFew (settled next k s)
unfolding settled
settled_few next zero s h f = tt
settled_few next (suc k) s h f = on_few next (settled next k) (step s) (step_few s h) f (λ t g. settled_few next k t g f)

run_few : (n : ℕ) (s : State) → IsFew s → AnswerFew (run n s)
unfolding run
run_few zero s h = tt
run_few (suc n) s h = settled_few (run n) (suc (length s.ahead)) s h (λ t g. run_few n t g)

answer_few : (a : Answer) (out : List Line) → AnswerFew a → a ≡ Some (Ok out) → length out ≤ 65535
answer_few None out h e = absurd (cc e)
answer_few (Some (Ok lines)) out h e = let same : lines ≡ out = cc e in subst (λ (l : List Line). length l ≤ 65535) same h
answer_few (Some (Err f)) out h e = absurd (cc e)

pub few_lines : (lines out : List Line) → expanded lines ≡ Some (Ok out) → length out ≤ 65535
unfolding expanded
few_lines lines out e = answer_few (run_out (start lines)) out (run_few (suc (start lines).left) (start lines) (omega arith)) e
