use Rattle.std.proofs.Common.{rules, ◌≡◌, ◌+◌, true, sym, ◌∙◌, subst}
use Rattle.std.specs.Prelude.{nat_le}
use Rattle.std.specs.List.{list_all}
use Rattle.kc_bound_requests.specs.Closed.{is_in, implies, IsClosed}
use Rattle.kc_bound_requests.specs.declared.enabled.TheConstants.{EACH}
use Rattle.kc_bound_requests.specs.Latency.{shut_at, all_turns}
use Rattle.kc_bound_requests.proofs.LatencyChecks.{if-some}
use Rattle.kc_bound_requests.proofs.latency_checking.checked_latency.Goals as goal

pub returns-clause-shows : goal.returns-clause-shows
returns-clause-shows c =
    let turns : c.in-Some.turns ≡ all_turns c.args.notes.now c.args.c.now = c.in-Some.ensures.1 in
    record {
      closed = if-some (IsClosed c.args.image.now c.args.notes.now c.args.from c.args.first c.args.c.now.requests) c.in_ok-checked.field-0 (grind (rules, c.is_none.ensures, c.if-is_none.false)) c.in_ok-checked.ensures.closed;
      sound = c.in_ok-all_sound.ensures.sound c.if-not-branch.false;
      first_most = subst (λ t. list_all (λ e. implies (is_in c.args.first e) (nat_le (shut_at c.args.c.now c.args.from e + t) c.args.c.now.most)) EACH ≡ true) turns (sym c.are_first_most.ensures ∙ c.if-not-are_first_most.false);
      each_most = c.all_most.ensures.sound c.if-not-all_most.false;
    }
