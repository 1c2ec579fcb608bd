use Rattle.std.proofs.Common.{◌≡◌, ◌∙◌, Result, Err, refl, ap, subst}
use Rattle.std.specs.Prelude.{IfErr}
use Rattle.kc_trace.specs.Trace.{out_of}
use Rattle.kc_cycles.specs.declared.lives.LivesFault.{LivesFault}
use Rattle.kc_kit_files.specs.Response.{Response}
use Rattle.kc_kit_files.specs.Outside.{kept, shown}
use Rattle.kc_kit_words.specs.Asked.{behind_in}
use Rattle.kc_kit_running.specs.declared.accounts.Watched.{Watched}
use Rattle.kc_kit_running.specs.Passing.{HasFailed}
use Rattle.kc_kit_running.specs.Profiled.{known, profiled, run_over}
use Rattle.kc_kit_running.proofs.ProfileLemmas.{profiled-finished, profiled-broken, profiled-paused}
use Rattle.kc_kit_running.proofs.profile_run.profile_board.Goals as goal

pub returns-in-Ok-clause-response : goal.returns-in-Ok-clause-response
returns-in-Ok-clause-response g c =
    let board = c.args.board in
    let behind = behind_in c.args.behind in
    let k = known c.args.lines.now in
    let run = run_over c.args.extent.lives c.args.extent.states k board.driving board.image in
    let old = kept (g.F.Files.held c.args.files.now) (g.F.Files.write_faults c.args.files.now) in
    let new = kept (g.F.Files.held c.finish.new.files) (g.F.Files.write_faults c.finish.new.files) in
    let before = shown (g.S.Sink.written c.args.out.now.sink) (g.S.Sink.faults c.args.out.now.sink) in
    let now = shown (g.S.Sink.written c.watch.new.out.sink) (g.S.Sink.faults c.watch.new.out.sink) in
    let passed = c.in-Ok.ensures.passed in
    profiled-finished behind k run (λ (response : Response). response ≡ profiled behind k run) old new before now c.finish.result refl c.in-Ok.watched.how _ passed.how passed.texts c.finish.ensures.finished (passed.lines.whole passed.written)

pub returns-in-Err-WriteFault-clause-response : goal.returns-in-Err-WriteFault-clause-response
returns-in-Err-WriteFault-clause-response g c =
    let board = c.args.board in
    let behind = behind_in c.args.behind in
    let k = known c.args.lines.now in
    let run = run_over c.args.extent.lives c.args.extent.states k board.driving board.image in
    let files = kept (g.F.Files.held c.args.files.now) (g.F.Files.write_faults c.args.files.now) in
    let old = out_of g.S.Sink.written g.S.Sink.faults c.args.out.now in
    let new = out_of g.S.Sink.written g.S.Sink.faults c.watch.new.out in
    profiled-broken behind k run (λ (response : Response). response ≡ profiled behind k run) files old new c.by.result refl
    (subst (λ (r : Result Watched LivesFault). IfErr r (λ f. HasFailed run old f new)) (c.in-Err-WriteFault.is ∙ ap Err c.in-Err-WriteFault.field-0-is) c.watch.ensures.failed) c.requires.ready c.by.ensures.status c.by.ensures.said

pub returns-clause-response : goal.returns-clause-response
returns-clause-response g c =
    let board = c.args.board in
    let behind = behind_in c.args.behind in
    let k = known c.args.lines.now in
    let run = run_over c.args.extent.lives c.args.extent.states k board.driving board.image in
    let files = kept (g.F.Files.held c.args.files.now) (g.F.Files.write_faults c.args.files.now) in
    let old = out_of g.S.Sink.written g.S.Sink.faults c.args.out.now in
    let new = out_of g.S.Sink.written g.S.Sink.faults c.watch.new.out in
    profiled-paused behind k run (λ (response : Response). response ≡ profiled behind k run) files old new c.by-in-Err-NoMemory.result refl
    (subst (λ (r : Result Watched LivesFault). IfErr r (λ f. HasFailed run old f new)) (c.in-Err-NoMemory.is ∙ ap Err c.in-Err-NoMemory.field-0-is) c.watch.ensures.failed) c.by-in-Err-NoMemory.ensures.status
