-- The answer at each place of the rewriting, and the marks there.
use Rattle.std.proofs.Common.{◌≡◌, ℕ, zero, suc, ap, ◌∙◌, inl, inr}
use Rattle.kc_macro.specs.declared.state.State.{State}
use Rattle.kc_macro.specs.Expansion.{run_out}
use Rattle.kc_macro_laws.specs.Course.{Goes, GoesBy, RewritingKeepsTheAnswer, ReachedMarksAreOld}
use Rattle.kc_macro_laws.proofs.Answers.{after_quiet, after_counted}
use Rattle.kc_macro_laws.proofs.Reached.{reached_good}

goes_keeps : (s t : State) → Goes s t → run_out s ≡ run_out t
goes_keeps s t (inl e) = after_quiet s t e
goes_keeps s t (inr e) = after_counted s t e

by_keeps : (n : ℕ) (s u : State) → GoesBy n s u → run_out s ≡ run_out u
unfolding GoesBy
by_keeps zero s u e = ap run_out e
by_keeps (suc n) s u g = goes_keeps s g.0 g.1.0 ∙ by_keeps n g.0 u g.1.1

pub rewriting_keeps_the_answer : RewritingKeepsTheAnswer
rewriting_keeps_the_answer s u l = by_keeps l.0 s u l.1

pub reached_marks_are_old : ReachedMarksAreOld
reached_marks_are_old s r = (reached_good s r).old
