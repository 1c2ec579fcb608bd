use Rattle.std.proofs.Common.{◌≡◌, ◌<◌, ◌≤◌, true, arith, sym, ◌∙◌}
use Rattle.kc_bound_requests.specs.Latency.{is_sound_at}
use Rattle.kc_bound_requests.proofs.LatencyChecks.{sound-everywhere, one-more}
use Rattle.kc_bound_requests.proofs.latency_checking.all_sound.Goals as goal

pub loop-at-preserved : goal.loop-at-preserved
loop-at-preserved c =
    one-more (λ a. is_sound_at c.args.image.now c.args.notes.now c.args.from c.args.c.now a ≡ true) c.loop-at.at c.loop-at.invariant
    (sym c.in_ok-is_sound.ensures ∙ c.if-not-branch.false)

pub returns-clause-sound : goal.returns-clause-sound
returns-clause-sound c = λ yes. sound-everywhere c.args.image.now c.args.notes.now c.args.from c.args.c.now (λ a low high. c.loop-at.invariant a low (let done : 24576 ≤ c.loop-at.at = c.loop-at-test.false in let less : a < 24576 = high in omega (arith, done, less)))
