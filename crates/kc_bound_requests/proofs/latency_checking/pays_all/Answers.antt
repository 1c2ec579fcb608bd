use Rattle.std.proofs.Common.{sym, ◌∙◌, rules}
use Rattle.kc_bound_requests.proofs.LatencyChecks.{hands-on-then}
use Rattle.kc_bound_requests.proofs.latency_checking.pays_all.Goals as goal

pub returns-then-all_hand_on : goal.returns-then-all_hand_on
returns-then-all_hand_on c =
    hands-on-then c.args.notes.now c.args.c.now c.args.work c.args.at c.args.before c.args.ways.now c.pays_before.result (search (rules, c.is_empty.ensures, c.if-is_empty.false)) (sym c.all_hand_on.ensures ∙ c.if-all_hand_on.true) c.pays_before.ensures
