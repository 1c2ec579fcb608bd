use Rattle.std.proofs.Common.{◌≡◌, refl, subst}
use Rattle.kc_debug.specs.Transcript.{Debugged}
use Rattle.kc_kit_files.specs.Response.{Response}
use Rattle.kc_kit_files.specs.Ended.{EndsBy}
use Rattle.kc_kit_files.specs.Outside.{shown}
use Rattle.kc_kit_running.specs.Scripted.{debugged_by, script_response}
use Rattle.kc_kit_running.specs.Fitted.{FittedUnit}
use Rattle.kc_kit_running.proofs.ScriptLemmas.{carried, carried-start, script-whole}
use Rattle.kc_kit_running.proofs.RunLemmas.{run-failed}
use Rattle.kc_kit_running.proofs.debug_run.debug_once.Goals as goal

pub returns-in-Ok-run_script : goal.returns-in-Ok-run_script
returns-in-Ok-run_script g c = λ files.
    let board = c.args.board in
    let ended = c.ended_run.result in
    let d : Debugged FittedUnit = carried c.in-Ok-with_lines.session c.args.script.now c.in-Ok.machine.machine in
    let same : d ≡ debugged_by c.args.lines c.args.script.now board.driving board.image =
    carried-start c.in-Ok-with_lines.session c.args.lines c.args.script.now c.in-Ok.machine.machine board.driving board.image c.in-Ok-with_lines.ensures.lines
    c.in-Ok.ensures in
    subst (λ (d : Debugged FittedUnit). EndsBy (λ (response : Response). response ≡ script_response d) files (shown (g.S.Sink.written c.args.out.now.sink) (g.S.Sink.faults c.args.out.now.sink)) ended.status ended.said files (shown (g.S.Sink.written c.run_script.new.out.sink) (g.S.Sink.faults c.run_script.new.out.sink))) same
    (script-whole d (λ (response : Response). response ≡ script_response d) files _ _ c.in-Ok-run_script.end ended refl c.in-Ok-run_script.ensures.end c.ended_run.ensures (c.run_script.ensures.text.whole c.in-Ok-run_script.ensures.written))

pub returns : goal.returns
returns g c = λ files.
    let board = c.args.board in
    let ended = c.by-in-Err.result in
    let d : Debugged FittedUnit = carried c.in-Ok-with_lines.session c.args.script.now c.in-Ok.machine.machine in
    let same : d ≡ debugged_by c.args.lines c.args.script.now board.driving board.image =
    carried-start c.in-Ok-with_lines.session c.args.lines c.args.script.now c.in-Ok.machine.machine board.driving board.image c.in-Ok-with_lines.ensures.lines
    c.in-Ok.ensures in
    subst (λ (d : Debugged FittedUnit). EndsBy (λ (response : Response). response ≡ script_response d) files (shown (g.S.Sink.written c.args.out.now.sink) (g.S.Sink.faults c.args.out.now.sink)) ended.status ended.said files (shown (g.S.Sink.written c.run_script.new.out.sink) (g.S.Sink.faults c.run_script.new.out.sink))) same
    (run-failed (script_response d) (λ (response : Response). response ≡ script_response d) files _ _ ended refl c.by-in-Err.ensures.status c.by-in-Err.ensures.said c.run_script.ensures.text.part (c.run_script.ensures.text.cause c.requires.ready c.in-Err.ensures.failed))
