use Rattle.std.proofs.Common.{◌≡◌, ◌∙◌, [], refl, sym}
use Rattle.kc_kit_files.specs.Response.{Response}
use Rattle.kc_kit_running.specs.Running.{ends_with}
use Rattle.kc_kit_running.specs.Sources.{no_lines}
use Rattle.kc_kit_running.proofs.RunLemmas.{run-ended, run-failed}
use Rattle.kc_kit_running.proofs.count.said_run.Goals as goal

pub returns-then-failed : goal.returns-then-failed
returns-then-failed g c = λ files.
    let response = ends_with no_lines c.args.how c.args.text.now [] in
    run-failed response (λ (r : Response). r ≡ response) files _ _ c.by.result refl c.by.ensures.status c.by.ensures.said c.put_text.ensures.text.part
    (c.put_text.ensures.text.cause c.requires.ready (sym c.failed.ensures ∙ c.if-failed.true))

pub returns-else-failed : goal.returns-else-failed
returns-else-failed g c = λ files.
    let response = ends_with no_lines c.args.how c.args.text.now [] in
    run-ended no_lines c.args.how c.args.text.now [] (λ (r : Response). r ≡ response) files _ _ c.ended_run.result refl c.ended_run.ensures (c.put_text.ensures.text.whole (sym c.failed.ensures ∙ c.if-failed.false))
