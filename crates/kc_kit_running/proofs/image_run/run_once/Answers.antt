use Rattle.std.proofs.Common.{◌≡◌, ◌∙◌, ap, refl, sym, subst}
use Rattle.kc_machine_spec.specs.Machine.{Machine, Stepped}
use Rattle.kc_machine_spec.specs.Run.{run_to, end_of}
use Rattle.kc_kit_files.specs.Response.{Response}
use Rattle.kc_kit_files.specs.Ended.{EndsBy}
use Rattle.kc_kit_files.specs.Outside.{shown}
use Rattle.kc_kit_running.specs.Fitted.{FittedUnit, fitted_further}
use Rattle.kc_kit_running.specs.Running.{run_response}
use Rattle.kc_kit_running.specs.Sources.{lines_in}
use Rattle.kc_kit_running.proofs.RunLemmas.{HasRun-start, Puts-trace, GrewByPart-trace, run-whole, run-failed}
use Rattle.kc_kit_running.proofs.image_run.run_once.Goals as goal

pub write_finals-requires-clause-ran : goal.write_finals-requires-clause-ran
write_finals-requires-clause-ran g c =
    HasRun-start c.args.states c.args.board.driving c.args.board.image c.run.new.self.machine c.in-Ok-run.end
    (c.in-Ok-run.ensures.machine ∙ ap (λ (m : Machine FittedUnit). (run_to fitted_further c.args.states m).machine) c.in-Ok.ensures)
    (c.in-Ok-run.ensures.end ∙ ap end_of (sym c.in-Ok-run.ensures.machine))

pub returns-in-Ok-write_finals : goal.returns-in-Ok-write_finals
returns-in-Ok-write_finals g c = λ files.
    let lines = lines_in c.args.sources.now in
    let ran : Stepped FittedUnit = run_to fitted_further c.args.states c.in-Ok.machine.machine in
    let put = Puts-trace ran _ _ _ c.in-Ok-run.end c.run.new.self.machine c.in-Ok-run.ensures.end c.in-Ok-run.ensures.machine c.run.ensures.lines c.write_finals.ensures.lines in
    subst (λ (m : Machine FittedUnit). EndsBy (λ (response : Response). response ≡ run_response lines (run_to fitted_further c.args.states m)) files (shown (g.S.Sink.written c.args.out.now.sink) (g.S.Sink.faults c.args.out.now.sink)) c.ended_run.result.status c.ended_run.result.said files (shown (g.S.Sink.written c.write_finals.new.out.sink) (g.S.Sink.faults c.write_finals.new.out.sink))) c.in-Ok.ensures
    (run-whole lines ran (λ (response : Response). response ≡ run_response lines ran) files _ _ c.in-Ok-run.end c.ended_run.result refl c.in-Ok-run.ensures.end c.ended_run.ensures (put.whole c.in-Ok-write_finals.ensures.written))

pub returns-in-Ok-run : goal.returns-in-Ok-run
returns-in-Ok-run g c = λ files.
    let lines = lines_in c.args.sources.now in
    let ran : Stepped FittedUnit = run_to fitted_further c.args.states c.in-Ok.machine.machine in
    let put = Puts-trace ran _ _ _ c.in-Ok-run.end c.run.new.self.machine c.in-Ok-run.ensures.end c.in-Ok-run.ensures.machine c.run.ensures.lines c.write_finals.ensures.lines in
    let ended = c.by-in-Err-write_finals.result in
    subst (λ (m : Machine FittedUnit). EndsBy (λ (response : Response). response ≡ run_response lines (run_to fitted_further c.args.states m)) files (shown (g.S.Sink.written c.args.out.now.sink) (g.S.Sink.faults c.args.out.now.sink)) ended.status ended.said files (shown (g.S.Sink.written c.write_finals.new.out.sink) (g.S.Sink.faults c.write_finals.new.out.sink))) c.in-Ok.ensures
    (run-failed (run_response lines ran) (λ (response : Response). response ≡ run_response lines ran) files _ _ ended refl c.by-in-Err-write_finals.ensures.status c.by-in-Err-write_finals.ensures.said put.part (put.cause c.requires.ready c.in-Err-write_finals.ensures.failed))

pub returns : goal.returns
returns g c = λ files.
    let lines = lines_in c.args.sources.now in
    let ran : Stepped FittedUnit = run_to fitted_further c.args.states c.in-Ok.machine.machine in
    let ended = c.by-in-Err.result in
    subst (λ (m : Machine FittedUnit). EndsBy (λ (response : Response). response ≡ run_response lines (run_to fitted_further c.args.states m)) files (shown (g.S.Sink.written c.args.out.now.sink) (g.S.Sink.faults c.args.out.now.sink)) ended.status ended.said files (shown (g.S.Sink.written c.run.new.out.sink) (g.S.Sink.faults c.run.new.out.sink))) c.in-Ok.ensures
    (run-failed (run_response lines ran) (λ (response : Response). response ≡ run_response lines ran) files _ _ ended refl c.by-in-Err.ensures.status c.by-in-Err.ensures.said
    (GrewByPart-trace ran (g.S.Sink.written c.args.out.now.sink) (g.S.Sink.written c.run.new.out.sink) c.run.ensures.lines.part) (c.run.ensures.lines.cause c.requires.ready c.in-Err.ensures.fails.failed))
