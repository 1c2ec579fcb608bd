use Rattle.kc_span.proofs.SpanLaws.{quiet_until}
use Rattle.kc_span.proofs.span.quiet_up_to_due.Goals as goal

pub returns : goal.returns
returns g c = quiet_until
