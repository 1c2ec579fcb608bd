use Rattle.std.proofs.Common.{◌≡◌, ◌++◌, inl, inr, refl, sym, ap, subst, ◌∙◌}
use Rattle.circular_buffer.specs.Buffer.{buffer, keep_last}
use Rattle.kc_debug.specs.Activities.{begun_for}
use Rattle.kc_trace.specs.Out.{Puts, Prints}
use Rattle.kc_trace.specs.Text.{text_of}
use Rattle.kc_trace.specs.Trace.{out_of}
use Rattle.kc_trace.proofs.Outs.{Puts-append, Puts-longer}
use Rattle.kc_machine_spec.specs.Machine.{Machine}
use Rattle.kc_machine_spec.specs.Run.{run_for}
use Rattle.kc_debug.specs.Lines.{stand_line}
use Rattle.kc_debug.specs.Passing.{Spends}
use Rattle.kc_debug.specs.Stands.{FailsWithin}
use Rattle.kc_debug.specs.Stops.{states_at_once, states_of_run}
use Rattle.kc_debug.specs.Transcript.{new_end}
use Rattle.kc_machine_spec.proofs.Calls.{always, always-failed, on-fault}
use Rattle.kc_debug.proofs.Passing.{kept-last, looking-none, ran, ring-33}
use Rattle.kc_debug.proofs.session.Sitting.go.Goals as goal

pub returns-in_err-go-clause-text : goal.returns-in_err-go-clause-text
returns-in_err-go-clause-text g c =
    let f = g.X.Extra.further in
    let m = c.args.machine.now.machine in
    let o = out_of g.S.Sink.written g.S.Sink.faults c.args.out.now in
    let p = out_of g.S.Sink.written g.S.Sink.faults c.go.new.out in
    Puts-longer o _ _ p c.in_err-go.ensures.fault.failed (subst (λ bs. Puts o (text_of (run_for f (states_of_run f bs c.args.until m) m).records) p) c.as_slice-addresses.ensures.value c.go.ensures.lines.text)

pub report_stand-requires-clause-ran : goal.report_stand-requires-clause-ran
report_stand-requires-clause-ran g c = λ lives. ran g.X.Extra.further _ c.args.machine.now.machine c.go.new.machine.machine c.in_ok-go.ensures.gone.machine (sym c.ended-before.ensures ∙ lives)

pub returns-clause-text : goal.returns-clause-text
returns-clause-text g c =
    let f = g.X.Extra.further in
    let m = c.args.machine.now.machine in
    let n = c.go.new.machine.machine in
    let o = out_of g.S.Sink.written g.S.Sink.faults c.args.out.now in
    let p = out_of g.S.Sink.written g.S.Sink.faults c.go.new.out in
    let q = out_of g.S.Sink.written g.S.Sink.faults c.report_stand.new.out in
    let lines = subst (λ bs. Puts o (text_of (run_for f (states_of_run f bs c.args.until m) m).records) p) c.as_slice-addresses.ensures.value c.go.ensures.lines.text in
    let there = c.in_ok-go.ensures.gone.machine ∙ ap (λ bs. (run_for f (states_of_run f bs c.args.until m) m).machine) c.as_slice-addresses.ensures.value in
    let text = subst (λ e. Puts p (text_of (new_end e n) ++ stand_line n) q) c.ended-before.ensures c.report_stand.ensures.text in
    Puts-append o _ p _ q lines (subst (λ (x : Machine _). Puts p (text_of (new_end m.ended x) ++ stand_line x) q) there text)

pub returns-in_err-go-clause-spent : goal.returns-in_err-go-clause-spent
returns-in_err-go-clause-spent g c =
    let f = g.X.Extra.further in
    let m = c.args.machine.now in
    subst (λ bs. Spends f (states_of_run f bs c.args.until m.machine) m c.args.steps.now c.go.new.machine c.go.new.steps) c.as_slice-addresses.ensures.value (looking-none f _ m c.args.steps.now c.go.new.machine c.go.new.steps c.go.ensures.spent)

pub returns-clause-spent : goal.returns-clause-spent
returns-clause-spent g c =
    let f = g.X.Extra.further in
    let m = c.args.machine.now in
    subst (λ bs. Spends f (states_of_run f bs c.args.until m.machine) m c.args.steps.now c.go.new.machine c.go.new.steps) c.as_slice-addresses.ensures.value (looking-none f _ m c.args.steps.now c.go.new.machine c.go.new.steps c.go.ensures.spent)

pub returns-in_err-go-clause-fails : goal.returns-in_err-go-clause-fails
returns-in_err-go-clause-fails g c =
    let f = g.X.Extra.further in
    let m = c.args.machine.now.machine in
    let o = out_of g.S.Sink.written g.S.Sink.faults c.args.out.now in
    let p = out_of g.S.Sink.written g.S.Sink.faults c.go.new.out in
    always-failed _ (inl (subst (λ bs. FailsWithin f (states_at_once c.args.until) (states_of_run f bs c.args.until m) m o c.go.new.machine.machine p) c.as_slice-addresses.ensures.value c.in_err-go.ensures.fails))

pub returns-clause-fails : goal.returns-clause-fails
returns-clause-fails g c =
    let f = g.X.Extra.further in
    let m = c.args.machine.now.machine in
    let n = c.go.new.machine.machine in
    let o = out_of g.S.Sink.written g.S.Sink.faults c.args.out.now in
    let p = out_of g.S.Sink.written g.S.Sink.faults c.go.new.out in
    let q = out_of g.S.Sink.written g.S.Sink.faults c.report_stand.new.out in
    let there = (run_for f (states_of_run f c.args.self.now.breaks.items c.args.until m) m).machine in
    let stands = c.in_ok-go.ensures.gone.machine ∙ ap (λ bs. (run_for f (states_of_run f bs c.args.until m) m).machine) c.as_slice-addresses.ensures.value in
    let text = subst (λ e. Puts p (text_of (new_end e n) ++ stand_line n) q) c.ended-before.ensures c.report_stand.ensures.text in
    on-fault c.report_stand.result c.report_stand.ensures.fault.failed (λ failed. inr (record {
      mid = p;
      whole = subst (λ bs. Prints o (run_for f (states_of_run f bs c.args.until m) m).records p) c.as_slice-addresses.ensures.value c.go.ensures.lines;
      unbroken = c.in_ok-go.ensures.fault.written;
      rest = text_of (new_end m.ended there) ++ stand_line there;
      says = refl;
      part = subst (λ (x : Machine _). Puts p (text_of (new_end m.ended x) ++ stand_line x) q) stands text;
      failed = failed;
      machine = stands;
    }))

pub go-requires-clause-kept : goal.go-requires-clause-kept
go-requires-clause-kept g c = kept-last c.args.self.now.begun 33 c.args.self.now.begun.items c.requires.kept

pub returns-clause-begun : goal.returns-clause-begun
returns-clause-begun g c =
    let f = g.X.Extra.further in
    let m = c.args.machine.now.machine in
    let r = c.args.self.now.begun in
    let noted = subst (λ bs. c.go.new.begun ≡ buffer (keep_last r.capacity (r.items ++ begun_for f (states_of_run f bs c.args.until m) m)) r.capacity) c.as_slice-addresses.ensures.value c.in_ok-go.ensures.gone.begun in
    always c.report_stand.result (ring-33 r c.go.new.begun (r.items ++ begun_for f (states_of_run f c.args.self.now.breaks.items c.args.until m) m) c.requires.kept noted)
