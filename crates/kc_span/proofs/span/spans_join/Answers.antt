use Rattle.kc_span.proofs.SpanLaws.{after-add}
use Rattle.kc_span.proofs.span.spans_join.Goals as goal

pub returns : goal.returns
returns g c = after-add
