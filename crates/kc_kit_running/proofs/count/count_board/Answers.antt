use Rattle.std.proofs.Common.{◌≡◌, ◌∙◌, [], ap, sym, subst}
use Rattle.kc_trace.specs.Counting.{counted_all}
use Rattle.kc_machine_spec.specs.Machine.{Machine, Stepped}
use Rattle.kc_machine_spec.specs.Run.{run_to, end_of}
use Rattle.kc_machine_spec.specs.Text.{HasRun}
use Rattle.kc_kit_files.specs.Response.{Response}
use Rattle.kc_kit_files.proofs.EndLemmas.{Ends-widen}
use Rattle.kc_kit_running.specs.Counted.{summary, summary_of}
use Rattle.kc_kit_running.specs.Fitted.{FittedUnit, fitted_further}
use Rattle.kc_kit_running.specs.Running.{ends_with}
use Rattle.kc_kit_running.specs.Sources.{no_lines}
use Rattle.kc_kit_running.proofs.RunLemmas.{HasRun-start, summary-is}
use Rattle.kc_kit_running.proofs.count.count_board.Goals as goal

pub summary-requires : goal.summary-requires
summary-requires g c =
    subst (HasRun c.in-Ok-run.end) (sym c.now.ensures)
    (HasRun-start 1000000 c.args.board.driving c.args.board.image c.run.new.self.machine c.in-Ok-run.end
    (c.in-Ok-run.ensures.machine ∙ ap (λ (m : Machine FittedUnit). (run_to fitted_further 1000000 m).machine) c.in-Ok.ensures)
    (c.in-Ok-run.ensures.end ∙ ap end_of (sym c.in-Ok-run.ensures.machine)))

pub returns-in-Ok-summary : goal.returns-in-Ok-summary
returns-in-Ok-summary g c = λ files.
    let ran : Stepped FittedUnit = run_to fitted_further 1000000 c.in-Ok.machine.machine in
    let reported : ends_with no_lines c.in-Ok-run.end c.deref.result.now [] ≡ summary c.args.number ran =
    summary-is c.args.number ran c.deref.result.now c.counts.result c.in-Ok-run.end c.now.result (c.deref.ensures.value ∙ c.in-Ok-summary.ensures)
    (c.counts.ensures ∙ c.in-Ok-run.ensures.counts ∙ ap (counted_all ran.records) c.new-trace.ensures.counts) c.in-Ok-run.ensures.end (c.now.ensures ∙ ap (λ (m : Machine FittedUnit). m.time) c.in-Ok-run.ensures.machine) in
    Ends-widen (λ (response : Response). response ≡ ends_with no_lines c.in-Ok-run.end c.deref.result.now []) (λ (response : Response). response ≡ summary_of c.args.number c.args.board.driving c.args.board.image) files _
    c.said_run.result.status c.said_run.result.said files _ (λ r e. e ∙ reported ∙ ap (λ (m : Machine FittedUnit). summary c.args.number (run_to fitted_further 1000000 m)) c.in-Ok.ensures) (c.said_run.ensures files)
