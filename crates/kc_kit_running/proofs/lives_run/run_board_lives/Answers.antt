use Rattle.std.proofs.Common.{◌≡◌, ◌∙◌, Result, Err, refl, ap, subst}
use Rattle.kc_trace.specs.Trace.{out_of}
use Rattle.kc_machine_spec.specs.declared.doing.End.{End}
use Rattle.kc_cycles.specs.declared.lives.LivesFault.{LivesFault}
use Rattle.kc_cycles.specs.Lives.{AreReported}
use Rattle.kc_kit_files.specs.Response.{Response}
use Rattle.kc_kit_running.specs.Lives.{board_lives, lives_response}
use Rattle.kc_kit_running.specs.Sources.{lines_in}
use Rattle.kc_kit_running.proofs.LivesLemmas.{as-watched, lives-whole, lives-part, lives-pause}
use Rattle.kc_kit_running.proofs.lives_run.run_board_lives.Goals as goal

pub returns-in-Ok : goal.returns-in-Ok
returns-in-Ok g c = λ files.
    let board = c.args.board in
    let lines = lines_in c.args.sources.now in
    let lives = board_lives c.args.lives c.args.states board.driving board.image in
    let old = out_of g.S.Sink.written g.S.Sink.faults c.args.out.now in
    let new = out_of g.S.Sink.written g.S.Sink.faults c.run_lives.new.out in
    let reported = as-watched c.args.lives c.args.states board.driving board.image old new _ _ c.run_lives.result c.run_lives.ensures in
    lives-whole lines lives (λ (response : Response). response ≡ lives_response lines lives) files old new c.ended_run.result refl c.in-Ok.end (subst (λ (r : Result End LivesFault). AreReported lives old r new) c.in-Ok.is reported) c.ended_run.ensures

pub returns-in-Err-WriteFault : goal.returns-in-Err-WriteFault
returns-in-Err-WriteFault g c = λ files.
    let board = c.args.board in
    let lines = lines_in c.args.sources.now in
    let lives = board_lives c.args.lives c.args.states board.driving board.image in
    let old = out_of g.S.Sink.written g.S.Sink.faults c.args.out.now in
    let new = out_of g.S.Sink.written g.S.Sink.faults c.run_lives.new.out in
    let reported = as-watched c.args.lives c.args.states board.driving board.image old new _ _ c.run_lives.result c.run_lives.ensures in
    lives-part lines lives (λ (response : Response). response ≡ lives_response lines lives) files old new c.by.result refl c.requires.ready (subst (λ (r : Result End LivesFault). AreReported lives old r new) (c.in-Err-WriteFault.is ∙ ap Err c.in-Err-WriteFault.field-0-is) reported)
    c.by.ensures.status c.by.ensures.said

pub returns : goal.returns
returns g c = λ files.
    let board = c.args.board in
    let lines = lines_in c.args.sources.now in
    let lives = board_lives c.args.lives c.args.states board.driving board.image in
    let old = out_of g.S.Sink.written g.S.Sink.faults c.args.out.now in
    let new = out_of g.S.Sink.written g.S.Sink.faults c.run_lives.new.out in
    let reported = as-watched c.args.lives c.args.states board.driving board.image old new _ _ c.run_lives.result c.run_lives.ensures in
    lives-pause lines lives (λ (response : Response). response ≡ lives_response lines lives) files old new c.by-in-Err-NoMemory.result refl (subst (λ (r : Result End LivesFault). AreReported lives old r new) (c.in-Err-NoMemory.is ∙ ap Err c.in-Err-NoMemory.field-0-is) reported)
    c.by-in-Err-NoMemory.ensures.status
