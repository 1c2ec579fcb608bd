use Rattle.std.proofs.Common.{subst}
use Rattle.std.specs.Prelude.{IfSome}
use Rattle.kc_bound_requests.specs.Closed.{IsClosed, IsLeastOpen}
use Rattle.kc_kit_bound.proofs.told.open_text.Goals as goal

pub returns-in-Some : goal.returns-in-Some
returns-in-Some c = record {
  certificate = c.in_ok-c.c;
  least = c.in-Some.found.least;
  closed = subst (λ found. IfSome found (λ o. IsClosed c.args.image.now c.args.notes.now c.args.from c.args.first c.in_ok-c.c)) c.in-Some.is c.in_ok-found.ensures.closed;
  is_least = subst (λ found. IfSome found (λ o. IsLeastOpen c.args.image.now c.args.notes.now c.args.from c.in_ok-c.c o.least)) c.in-Some.is c.in_ok-found.ensures.least;
  printed = c.in_ok-open_line-in-Some.ensures;
}
