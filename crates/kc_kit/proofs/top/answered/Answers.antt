use Rattle.std.proofs.Common.{◌≡◌, [], Some, inl, ap, sym, subst, map, string_bytes}
use Rattle.kc_base.specs.Causes.{Rose}
use Rattle.kc_trace.specs.Trace.{out_of}
use Rattle.kc_kit_files.specs.declared.status.Status.TheVariants as status
use Rattle.kc_kit_files.specs.Response.{Response, says}
use Rattle.kc_kit_files.specs.Outside.{kept, shown, Responses}
use Rattle.kc_kit_files.specs.Ended.{Noted}
use Rattle.kc_kit_files.proofs.EndLemmas.{Ends-responses, Ends-noted, noted-usage}
use Rattle.kc_kit_files.proofs.ResponseLemmas.{Responses-widen}
use Rattle.kc_kit_words.specs.Asked.{asked}
use Rattle.kc_kit_words.specs.Usage.{usage_diagnostic}
use Rattle.kc_kit_words.specs.Words.{command_of}
use Rattle.kc_kit_inputs.specs.FaultDiagnostics.{IsFaultDiagnostic}
use Rattle.kc_kit_inputs.specs.Sources.{AnyDiagnostic}
use Rattle.kc_kit_answer.specs.Answer.{MayAnswer}
use Rattle.kc_kit_answer.specs.Lines.{usage_line}
use Rattle.kc_kit_answer.proofs.AnswerSteps.{holds-none}
use Rattle.kc_kit.proofs.Ending.{nothing-wrong}
use Rattle.kc_kit.proofs.DiagnosticLemmas.{may-any}
use Rattle.kc_kit.proofs.top.answered.Goals as goal

pub returns-in-None-clause-answer : goal.returns-in-None-clause-answer
returns-in-None-clause-answer g c =
    let reported = g.F.Files.held c.args.files.now in
    let rose : Type 0 = Rose (g.F.Files.read_faults c.args.files.now) (g.F.Files.read_faults c.args.files.now) in
    Responses-widen (λ (response : Response). response ≡ says status.Usage usage_line) (MayAnswer AnyDiagnostic (command_of (map string_bytes c.args.words.now)) reported rose) _ _ _ _ _
    (λ r e. subst (λ o. MayAnswer AnyDiagnostic o reported rose r) c.in-None.ensures.asked ([], holds-none reported, inl e))
    (c.refuse_words.ensures.response (kept reported (g.F.Files.write_faults c.args.files.now)))

pub returns-in-None-clause-diagnostics : goal.returns-in-None-clause-diagnostics
returns-in-None-clause-diagnostics g c =
    let reported = g.F.Files.held c.args.files.now in
    let rose : Type 0 = Rose (g.F.Files.read_faults c.args.files.now) (g.F.Files.read_faults c.args.files.now) in
    noted-usage (usage_diagnostic (map string_bytes c.args.words.now)) (λ (response : Response). response ≡ says status.Usage usage_line) (MayAnswer IsFaultDiagnostic (command_of (map string_bytes c.args.words.now)) reported rose) _ _ _ _ _ _ _
    (λ r e. subst (λ o. MayAnswer IsFaultDiagnostic o reported rose r) c.in-None.ensures.asked ([], holds-none reported, inl e)) (λ r e. ap (λ (w : Response). w.writes) e) (λ r e. ap (λ (w : Response). w.diagnostic) e)
    c.refuse_words.ensures.status (c.refuse_words.ensures.response (kept reported (g.F.Files.write_faults c.args.files.now))) c.refuse_words.ensures.usage c.refuse_words.ensures.output

pub returns-in-Some-clause-answer : goal.returns-in-Some-clause-answer
returns-in-Some-clause-answer g c =
    let reported = g.F.Files.held c.args.files.now in
    let rose : Type 0 = Rose (g.F.Files.read_faults c.args.files.now) (g.F.Files.read_faults c.done-ended.new.files) in
    let command = asked c.in-Some.command in
    subst (λ o. Responses (MayAnswer AnyDiagnostic o reported rose) (kept reported (g.F.Files.write_faults c.args.files.now)) (shown (g.S.Sink.written c.args.out.now.sink) (g.S.Sink.faults c.args.out.now.sink)) c.done-ended.result.status
    (kept (g.F.Files.held c.done-ended.new.files) (g.F.Files.write_faults c.done-ended.new.files)) (shown (g.S.Sink.written c.done-ended.new.out.sink) (g.S.Sink.faults c.done-ended.new.out.sink))) c.in-Some.ensures.asked
    (Responses-widen (MayAnswer IsFaultDiagnostic (Some command) reported rose) (MayAnswer AnyDiagnostic (Some command) reported rose) _ _ c.done-ended.result.status _ _ (may-any IsFaultDiagnostic (Some command) reported rose)
    (Ends-responses (MayAnswer IsFaultDiagnostic (Some command) reported rose) _ _ c.done-ended.result.status c.done-ended.result.said _ _ c.done-ended.ensures))

pub returns-in-Some-clause-diagnostics : goal.returns-in-Some-clause-diagnostics
returns-in-Some-clause-diagnostics g c =
    let reported = g.F.Files.held c.args.files.now in
    let rose : Type 0 = Rose (g.F.Files.read_faults c.args.files.now) (g.F.Files.read_faults c.done-ended.new.files) in
    let usage = usage_diagnostic (map string_bytes c.args.words.now) in
    let a = out_of g.N.Sink.written g.N.Sink.faults c.args.diagnostics.now in
    let b = out_of g.N.Sink.written g.N.Sink.faults c.put_diagnostic.new.diagnostics in
    subst (λ o. Noted usage (MayAnswer IsFaultDiagnostic o reported rose) (kept reported (g.F.Files.write_faults c.args.files.now)) (shown (g.S.Sink.written c.args.out.now.sink) (g.S.Sink.faults c.args.out.now.sink)) a c.done-ended.result.status
    (kept (g.F.Files.held c.done-ended.new.files) (g.F.Files.write_faults c.done-ended.new.files)) (shown (g.S.Sink.written c.done-ended.new.out.sink) (g.S.Sink.faults c.done-ended.new.out.sink)) b) c.in-Some.ensures.asked
    (Ends-noted usage (MayAnswer IsFaultDiagnostic (Some (asked c.in-Some.command)) reported rose) _ _ a c.done-ended.result.status c.done-ended.result.said _ _ b (nothing-wrong (map string_bytes c.args.words.now) (asked c.in-Some.command) (sym c.in-Some.ensures.asked)) c.done-ended.ensures c.put_diagnostic.ensures)
