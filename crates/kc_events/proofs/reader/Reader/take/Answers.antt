use Rattle.std.proofs.Common.{sym, ◌∙◌}
use Rattle.kc_events.specs.Printed.{place_in}
use Rattle.kc_events.proofs.PlaceLemmas.{unfit}
use Rattle.kc_events.proofs.reader.Reader.take.Goals as goal

pub returns-else-may_follow-clause-none : goal.returns-else-may_follow-clause-none
returns-else-may_follow-clause-none c = λ none other fits same.
    unfit (place_in c.args.self.now) c.in_ok-line.line c.args.text.now c.in_ok-line.ensures.sound.0 c.in_ok-line.ensures.sound.1 (sym c.may_follow.ensures ∙ c.if-may_follow.false) other fits same
