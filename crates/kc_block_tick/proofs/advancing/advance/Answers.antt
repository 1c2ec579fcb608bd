use Rattle.std.proofs.Common.{◌≡◌, ◌+◌, ◌-◌, ◌≤◌, ◌++◌, refl, sym, ◌∙◌, ap, subst, arith}
use Rattle.kc_span.specs.Span.{after}
use Rattle.kc_span.proofs.SpanLaws.{after-none, after-over}
use Rattle.kc_block_spec.specs.Touch.{block_rule, touch, edges_of}
use Rattle.kc_block_spec.specs.Leading.{Leads}
use Rattle.kc_block_units.proofs.Leads.{leads_on}
use Rattle.kc_block_units.specs.Scheduler.{shown_units, IsScheduled}
use Rattle.kc_block_units.specs.Standing.{standing}
use Rattle.kc_block_tick.proofs.Going.{edges-none, edges-over, touch-over}
use Rattle.kc_block_tick.proofs.advancing.advance.Goals as goal

pub loop-time-init : goal.loop-time-init
loop-time-init g c =
    let f = g.X.Extra.further in
    let u = shown_units f (standing g.X.Extra.plain c.args.scheduler.now) c.args.now in
    record {
      later = omega arith;
      within = c.requires.order;
      scheduled = c.requires.scheduled;
      units = sym (after-none (block_rule f) c.args.now u);
      edges = subst (λ es. Leads g.O.EdgeOut.led c.args.out.now es c.args.out.now) (sym (edges-none f c.args.now u)) refl;
      steps = omega arith;
      moves = omega arith;
    }

pub loop-time-preserved : goal.loop-time-preserved
loop-time-preserved g c =
    let f = g.X.Extra.further in
    let led = g.O.EdgeOut.led in
    let now = c.args.now in
    let mid = c.loop-time.time in
    let end = c.go-time.result in
    let u = shown_units f (standing g.X.Extra.plain c.args.scheduler.now) now in
    let v = shown_units f (standing g.X.Extra.plain c.loop-time.scheduler) mid in
    let before = c.loop-time.invariant in
    let one = c.go-time.ensures in
    let at : v ≡ after (block_rule f) now (mid - now) u = before.units in
    let le : now ≤ mid = before.later in
    let le' : mid ≤ end = omega (arith, one.later) in
    let all : touch f now (end - now) u ≡ touch f now (mid - now) u + touch f mid (end - mid) (after (block_rule f) now (mid - now) u) = touch-over f now mid end u le le' in
    let same : touch f mid (end - mid) v ≡ touch f mid (end - mid) (after (block_rule f) now (mid - now) u) = ap (touch f mid (end - mid)) at in
    record {
      later = omega (arith, le, le');
      within = one.within;
      scheduled = one.scheduled;
      units = one.units ∙ ap (after (block_rule f) mid (end - mid)) at ∙ sym (after-over (block_rule f) now mid end u le le');
      edges =
          subst (λ es. Leads led c.args.out.now es c.go-time.new.out)
          (ap (λ x. edges_of f now (mid - now) u ++ edges_of f mid (end - mid) x) at ∙ sym (edges-over f now mid end u le le'))
          (leads_on led _ _ _ _ _ before.edges one.edges);
      steps = omega (arith, all, same, before.steps, one.costs.spent);
      moves = omega (arith, all, same, before.moves, one.costs.moves);
    }

pub returns-clause-scheduled : goal.returns-clause-scheduled
returns-clause-scheduled g c =
    let all : c.loop-time.time ≡ c.args.to = omega (arith, c.loop-time.invariant.within) in
    subst (λ t. IsScheduled g.X.Extra.further g.X.Extra.agrees (standing g.X.Extra.plain c.loop-time.scheduler) t) all c.loop-time.invariant.scheduled
