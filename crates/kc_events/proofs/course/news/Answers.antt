use Rattle.std.proofs.Common.{◌+◌, true, Some, sym, subst}
use Rattle.kc_events.specs.declared.line.Line.TheVariants.{Restarted}
use Rattle.kc_events.specs.declared.course.Known.TheVariants.{Ending}
use Rattle.kc_events.specs.Coming.{IsFed}
use Rattle.kc_events.proofs.FedLemmas.{fed_restart}
use Rattle.kc_events.proofs.course.news.Goals as goal

pub returns-in-Printed-clause-end : goal.returns-in-Printed-clause-end
returns-in-Printed-clause-end c = λ base early. c.record_news.ensures.end base

pub returns-in-Restarted-clause-fed : goal.returns-in-Restarted-clause-fed
returns-in-Restarted-clause-fed c =
    let at = c.in-Restarted.at in
    let by_watchdog = c.in-Restarted.by_watchdog in
    subst (λ line. IsFed line (Some c.restart_event.result) (Ending (at + 1) true)) (sym c.in-Restarted.is)
    (subst (λ e. IsFed (Restarted at by_watchdog) (Some e) (Ending (at + 1) true)) (sym c.restart_event.ensures) (fed_restart at by_watchdog))
