-- Each text has an answer: a pass has a fault, or none has, and then there is a module.
use Rattle.std.proofs.Common.{◌≡◌, ℕ, List, refl, inl, inr}
use Rattle.std.specs.Prelude.{Option, Some, None, Result, Ok, Err}
use Rattle.kc_lex.specs.declared.token.Line.{Line}
use Rattle.kc_lex.specs.Lines.{lines_of}
use Rattle.kc_macro.specs.Expansion.{Answer, expanded, Ends, ExpansionEnds}
use Rattle.kc_source.specs.Clear.{NamesAreClear}
use Rattle.kc_source.specs.Faults.{Fault, least, faults_of}
use Rattle.kc_obj_module.specs.Object.{Object}
use Rattle.kc_asm_symbols.specs.Few.{ExternalsAreFew}
use Rattle.kc_asm_check.specs.Checking.{first_fault}
use Rattle.kc_asm.specs.Assembled.{IsText, IsFirstFault, IsFaultless, IsModule}
use Rattle.kc_asm_laws.specs.Exists.{FaultlessHaveModules}
use Rattle.kc_asm_laws.specs.Modules.{IsAnswer}
use Rattle.kc_asm_laws.proofs.OneAnswer.{of_values, no_fault}
use Rattle.kc_asm_laws.specs.Made.{TextsAreAnswered}
use Rattle.kc_asm_laws.proofs.Made.{Collected, collected}

abbrev Answered : List ℕ → Type 0
Answered text = (answer : Result Object Fault) × IsAnswer text answer

refused : (text : List ℕ) (f : Fault) → IsFirstFault text f → Answered text
refused text f h = (Err f, h)

assembled : (text : List ℕ) → (m : Object) × IsModule text m → Answered text
assembled text h = (Ok h.0, h.1)

pub record Laws : Type 0 where
  pub ends : ExpansionEnds
  pub have : FaultlessHaveModules
  pub few : ExternalsAreFew
  pub clear : NamesAreClear

-- where the first three passes have no fault
of_values_pass : Laws → (text : List ℕ) (out : List Line) → IsText text out → least (faults_of out) ≡ None → (d : Collected text) → (o : Option Fault) → first_fault d.stmts ≡ o → Answered text
of_values_pass laws text out t g d None e =
    let none : IsFaultless text = λ line code h. no_fault text d.stmts d.said e (line, code) (of_values text out t g (line, code) h) in
    assembled text (laws.have text d.stmts d.unlinked none d.said d.collected)
of_values_pass laws text out t g d (Some f) e = refused text f (inr (inr (inr (d.stmts, d.said, e))))

module _ (laws : Laws) (text : List ℕ) where
  of_names : (out : List Line) → IsText text out → (o : Option Fault) → least (faults_of out) ≡ o → Answered text
  of_names out t None g = (let d : Collected text = collected laws.few laws.clear text out t g in of_values_pass laws text out t g d (first_fault d.stmts) refl)
  of_names out t (Some f) g = refused text f (inr (inr (inl (out, t, g))))

  of_macros : (lines : List Line) → lines_of text ≡ Ok lines → (a : Answer) → expanded lines ≡ a → Ends a → Answered text
  of_macros lines e None g ended = absurd ended
  of_macros lines e (Some (Err f)) g ended = refused text f (inr (inl (lines, e, g)))
  of_macros lines e (Some (Ok out)) g ended = of_names out (lines, e, g) (least (faults_of out)) refl

  of_lines : (r : Result (List Line) Fault) → lines_of text ≡ r → Answered text
  of_lines (Err f) e = refused text f (inl e)
  of_lines (Ok lines) e = of_macros lines e (expanded lines) refl (laws.ends lines)

pub texts_are_answered : Laws → TextsAreAnswered
texts_are_answered laws text = of_lines laws text (lines_of text) refl
