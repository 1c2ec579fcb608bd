use Rattle.std.proofs.Common.{sym, ◌∙◌}
use Rattle.kc_events.proofs.Spelled.{lost, other_line}
use Rattle.kc_events.proofs.candidates.record.Goals as goal

pub returns-in_err-item-clause-none : goal.returns-in_err-item-clause-none
returns-in_err-item-clause-none c = λ none item sound e. lost c.args.line.now (sym c.candidate.ensures.value ∙ c.in_err-item.was) item sound e

pub returns-else-is_spelled-clause-none : goal.returns-else-is_spelled-clause-none
returns-else-is_spelled-clause-none c = λ none item sound e.
    other_line c.args.line.now c.in_ok-item.item (sym c.candidate.ensures.value ∙ c.in_ok-item.was) (c.is_spelled.ensures.other c.if-is_spelled.false) item sound e
