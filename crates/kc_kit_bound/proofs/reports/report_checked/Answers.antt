use Rattle.std.proofs.Common.{◌≤◌, subst}
use Rattle.std.specs.Prelude.{IfSome}
use Rattle.kc_base.specs.Limits.{max_states}
use Rattle.kc_bound.specs.Certified.{Shows}
use Rattle.kc_kit_bound.specs.Reports.{IsMaybeWalk}
use Rattle.kc_kit_bound.specs.Told.{first_of, latency_first, IsOpenText, IsLatencyText}
use Rattle.kc_kit_bound.proofs.reports.report_checked.Goals as goal

pub returns-in_ok-bound_text-in-Some-2 : goal.returns-in_ok-bound_text-in-Some-2
returns-in_ok-bound_text-in-Some-2 c =
    let image = c.args.image.now in
    let notes = c.args.notes.now in
    let from = c.args.from in
    let wanted = c.args.wanted in
    record {
      certificate = c.args.c.now;
      bound = c.in-Some.b;
      shows = subst (λ found. IfSome found (λ b. Shows image notes from c.args.c.now b)) c.in-Some.is c.in_ok-b.ensures.shows;
      most = subst (λ found. IfSome found (λ b. b.over ≤ max_states)) c.in-Some.is c.in_ok-b.ensures.most;
      served = c.in-Some-2.told.served.items;
      is_served = subst (λ found. IfSome found (λ t. IsOpenText image notes from (first_of wanted) t.served.items)) c.in-Some-2.is c.in_ok-told.ensures.served;
      latency = c.in-Some-2.told.latency.items;
      is_latency = subst (λ found. IfSome found (λ t. IsLatencyText wanted.latency image notes from (latency_first wanted from) t.latency.items)) c.in-Some-2.is c.in_ok-told.ensures.latency;
      walk = c.in-Some-2.told.walk.items;
      is_walk = subst (λ found. IfSome found (λ t. IsMaybeWalk wanted.worst image notes from c.args.lines.now t.walk.items)) c.in-Some-2.is c.in_ok-told.ensures.walk;
      printed = c.in_ok-bound_text-in-Some-2.ensures;
    }
