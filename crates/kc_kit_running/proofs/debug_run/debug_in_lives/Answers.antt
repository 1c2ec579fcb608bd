use Rattle.std.proofs.Common.{◌≡◌, ◌∙◌, Result, Err, refl, ap, subst}
use Rattle.kc_trace.specs.Trace.{out_of}
use Rattle.kc_machine_spec.specs.declared.doing.End.{End}
use Rattle.kc_cycles.specs.declared.lives.LivesFault.{LivesFault}
use Rattle.kc_debug.specs.Debugging.{IsAnswered}
use Rattle.kc_kit_files.specs.Response.{Response}
use Rattle.kc_kit_running.specs.Scripted.{debugged_in_lives, lives_script_response}
use Rattle.kc_kit_running.proofs.ScriptLemmas.{as-debugged, debugged-whole, debugged-part, debugged-pause}
use Rattle.kc_kit_running.proofs.debug_run.debug_in_lives.Goals as goal

pub returns-in-Ok : goal.returns-in-Ok
returns-in-Ok g c = λ files.
    let board = c.args.board in
    let l = debugged_in_lives c.args.most c.args.lines c.args.script.now board.driving board.image in
    let old = out_of g.S.Sink.written g.S.Sink.faults c.args.out.now in
    let new = out_of g.S.Sink.written g.S.Sink.faults c.debug_lives.new.out in
    let answered = as-debugged c.args.most c.args.lines c.args.script.now board.driving board.image old new c.debug_lives.result c.debug_lives.ensures in
    debugged-whole l (λ (response : Response). response ≡ lives_script_response l) files old new c.ended_run.result refl c.in-Ok.how (subst (λ (r : Result End LivesFault). IsAnswered l old r new) c.in-Ok.is answered) c.ended_run.ensures

pub returns-in-Err-WriteFault : goal.returns-in-Err-WriteFault
returns-in-Err-WriteFault g c = λ files.
    let board = c.args.board in
    let l = debugged_in_lives c.args.most c.args.lines c.args.script.now board.driving board.image in
    let old = out_of g.S.Sink.written g.S.Sink.faults c.args.out.now in
    let new = out_of g.S.Sink.written g.S.Sink.faults c.debug_lives.new.out in
    let answered = as-debugged c.args.most c.args.lines c.args.script.now board.driving board.image old new c.debug_lives.result c.debug_lives.ensures in
    debugged-part l (λ (response : Response). response ≡ lives_script_response l) files old new c.by.result refl c.requires.ready (subst (λ (r : Result End LivesFault). IsAnswered l old r new) (c.in-Err-WriteFault.is ∙ ap Err c.in-Err-WriteFault.field-0-is) answered)
    c.by.ensures.status c.by.ensures.said

pub returns : goal.returns
returns g c = λ files.
    let board = c.args.board in
    let l = debugged_in_lives c.args.most c.args.lines c.args.script.now board.driving board.image in
    let old = out_of g.S.Sink.written g.S.Sink.faults c.args.out.now in
    let new = out_of g.S.Sink.written g.S.Sink.faults c.debug_lives.new.out in
    let answered = as-debugged c.args.most c.args.lines c.args.script.now board.driving board.image old new c.debug_lives.result c.debug_lives.ensures in
    debugged-pause l (λ (response : Response). response ≡ lives_script_response l) files old new c.by-in-Err-NoMemory.result refl (subst (λ (r : Result End LivesFault). IsAnswered l old r new) (c.in-Err-NoMemory.is ∙ ap Err c.in-Err-NoMemory.field-0-is) answered)
    c.by-in-Err-NoMemory.ensures.status
