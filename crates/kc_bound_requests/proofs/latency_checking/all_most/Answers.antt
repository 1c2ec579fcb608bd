use Rattle.std.proofs.Common.{◌≡◌, ◌<◌, ◌≤◌, true, arith, sym, ◌∙◌}
use Rattle.kc_bound_requests.specs.Latency.{is_most_at}
use Rattle.kc_bound_requests.proofs.LatencyChecks.{most-everywhere, one-more}
use Rattle.kc_bound_requests.proofs.latency_checking.all_most.Goals as goal

pub loop-at-preserved : goal.loop-at-preserved
loop-at-preserved c =
    one-more (λ a. is_most_at c.args.image.now c.args.notes.now c.args.from c.args.c.now c.args.c.now.most a ≡ true) c.loop-at.at c.loop-at.invariant
    (sym c.is_most_at.ensures ∙ c.if-not-is_most_at.false)

pub returns-clause-sound : goal.returns-clause-sound
returns-clause-sound c = λ yes. most-everywhere c.args.image.now c.args.notes.now c.args.from c.args.c.now c.args.c.now.most (λ a low high. c.loop-at.invariant a low (let done : 24576 ≤ c.loop-at.at = c.loop-at-test.false in let less : a < 24576 = high in omega (arith, done, less)))
