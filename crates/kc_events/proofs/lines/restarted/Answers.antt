use Rattle.std.proofs.Common.{sym, ◌∙◌}
use Rattle.kc_events.proofs.LineLemmas.{no_restart, other_restart}
use Rattle.kc_events.proofs.lines.restarted.Goals as goal

pub returns-in_err-at-clause-none : goal.returns-in_err-at-clause-none
returns-in_err-at-clause-none c = λ none at by_watchdog early e. no_restart c.args.text.now (sym c.candidate.ensures.value ∙ c.in_err-at.was) at by_watchdog early e

pub returns-else-is_spelled-clause-none : goal.returns-else-is_spelled-clause-none
returns-else-is_spelled-clause-none c = λ none at by_watchdog early e.
    other_restart c.args.text.now c.in_ok-at.at c.in_ok-at.by_watchdog (sym c.candidate.ensures.value ∙ c.in_ok-at.was) (c.is_spelled.ensures.other c.if-is_spelled.false) at by_watchdog early e
