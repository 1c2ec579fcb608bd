use Rattle.std.proofs.Common.{◌≡◌, [], List, sym, ap, subst, ◌∙◌}
use Rattle.kc_trace.specs.declared.record.Record.{Record}
use Rattle.kc_trace.specs.Out.{Out, Puts}
use Rattle.kc_trace.specs.Text.{text_of}
use Rattle.kc_trace.specs.Trace.{out_of}
use Rattle.kc_trace.proofs.Outs.{Puts-nothing}
use Rattle.kc_trace.proofs.Printed.{text_of-nothing, text_of-one}
use Rattle.kc_machine.specs.Stepping.{end_line}
use Rattle.kc_debug.specs.Transcript.{end_lines, new_end}
use Rattle.kc_debug.proofs.showing.report_end.Goals as goal

nothing : (o : Out) (records : List Record) → records ≡ [] → Puts o (text_of records) o
nothing o records none = subst (λ xs. Puts o xs o) (sym (ap text_of none ∙ text_of-nothing)) (Puts-nothing o)

pub returns-in-Some-clause-text : goal.returns-in-Some-clause-text
returns-in-Some-clause-text g c = nothing _ _ (ap (λ b. new_end b c.args.machine.now.machine) c.in-Some.is)

pub returns-in-None-ended-clause-text : goal.returns-in-None-ended-clause-text
returns-in-None-ended-clause-text g c =
    nothing _ _ (ap (λ b. new_end b c.args.machine.now.machine) c.in-None.is ∙ ap (λ b. end_lines b c.args.machine.now.machine) (sym c.ended.ensures ∙ c.in-None-ended.is))

pub returns-in-Some-ended-clause-text : goal.returns-in-Some-ended-clause-text
returns-in-Some-ended-clause-text g c =
    let m = c.args.machine.now.machine in
    let o = out_of g.S.Sink.written g.S.Sink.faults c.args.out.now in
    let p = out_of g.S.Sink.written g.S.Sink.faults c.write_end.new.out in
    let records = ap (λ b. new_end b m) c.in-None.is ∙ ap (λ b. end_lines b m) (sym c.ended.ensures ∙ c.in-Some-ended.is) in
    subst (λ xs. Puts o xs p) (sym (ap text_of records ∙ text_of-one (end_line c.in-Some-ended.how m))) c.write_end.ensures.line
