use Rattle.std.proofs.Common.{◌++◌, inl, inr, refl, sym, subst, ◌∙◌}
use Rattle.kc_trace.specs.Out.{Puts}
use Rattle.kc_trace.specs.Text.{text_of}
use Rattle.kc_trace.specs.Trace.{out_of}
use Rattle.kc_trace.proofs.Outs.{Puts-append, Puts-longer}
use Rattle.kc_machine_spec.specs.Machine.{Machine}
use Rattle.kc_machine_spec.specs.Run.{run_for}
use Rattle.kc_debug.specs.Lines.{stand_line}
use Rattle.kc_debug.specs.Stops.{states_of_activities}
use Rattle.kc_debug.specs.Transcript.{new_end}
use Rattle.kc_machine_spec.proofs.Calls.{always, always-failed, on-fault}
use Rattle.kc_debug.proofs.Passing.{kept-last, ran, ring-33}
use Rattle.kc_debug.proofs.session.Sitting.step.Goals as goal

pub returns-in_err-step-clause-text : goal.returns-in_err-step-clause-text
returns-in_err-step-clause-text g c = Puts-longer _ _ _ _ c.in_err-step.ensures.fault.failed c.step.ensures.lines.text

pub report_stand-requires-clause-ran : goal.report_stand-requires-clause-ran
report_stand-requires-clause-ran g c = λ lives. ran g.X.Extra.further _ c.args.machine.now.machine c.step.new.machine.machine c.in_ok-step.ensures.gone.machine (sym c.ended-before.ensures ∙ lives)

pub returns-clause-text : goal.returns-clause-text
returns-clause-text g c =
    let n = c.step.new.machine.machine in
    let p = out_of g.S.Sink.written g.S.Sink.faults c.step.new.out in
    let q = out_of g.S.Sink.written g.S.Sink.faults c.report_stand.new.out in
    let text = subst (λ o. Puts p (text_of (new_end o n) ++ stand_line n) q) c.ended-before.ensures c.report_stand.ensures.text in
    Puts-append _ _ p _ q c.step.ensures.lines.text (subst (λ (x : Machine _). Puts p (text_of (new_end c.args.machine.now.machine.ended x) ++ stand_line x) q) c.in_ok-step.ensures.gone.machine text)

pub returns-in_err-step-clause-fails : goal.returns-in_err-step-clause-fails
returns-in_err-step-clause-fails g c = always-failed _ (inl c.in_err-step.ensures.fails)

pub returns-clause-fails : goal.returns-clause-fails
returns-clause-fails g c =
    let f = g.X.Extra.further in
    let m = c.args.machine.now.machine in
    let n = c.step.new.machine.machine in
    let p = out_of g.S.Sink.written g.S.Sink.faults c.step.new.out in
    let q = out_of g.S.Sink.written g.S.Sink.faults c.report_stand.new.out in
    let there = (run_for f (states_of_activities f c.args.count m) m).machine in
    let text = subst (λ o. Puts p (text_of (new_end o n) ++ stand_line n) q) c.ended-before.ensures c.report_stand.ensures.text in
    on-fault c.report_stand.result c.report_stand.ensures.fault.failed (λ failed. inr (record {
      mid = p;
      whole = c.step.ensures.lines;
      unbroken = c.in_ok-step.ensures.fault.written;
      rest = text_of (new_end m.ended there) ++ stand_line there;
      says = refl;
      part = subst (λ (x : Machine _). Puts p (text_of (new_end m.ended x) ++ stand_line x) q) c.in_ok-step.ensures.gone.machine text;
      failed = failed;
      machine = c.in_ok-step.ensures.gone.machine;
    }))

pub step-requires-clause-kept : goal.step-requires-clause-kept
step-requires-clause-kept g c = kept-last c.args.self.now.begun 33 c.args.self.now.begun.items c.requires.kept

pub returns-clause-begun : goal.returns-clause-begun
returns-clause-begun g c = always c.report_stand.result (ring-33 c.args.self.now.begun _ _ c.requires.kept c.in_ok-step.ensures.gone.begun)
