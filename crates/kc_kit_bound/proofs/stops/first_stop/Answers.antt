use Rattle.std.proofs.Common.{sym, ◌∙◌, arith}
use Rattle.kc_kit_bound.specs.Stops.{may_stop}
use Rattle.kc_kit_bound.proofs.StopLemmas.{found_here, not_here, none_left}
use Rattle.kc_kit_bound.proofs.stops.first_stop.Goals as goal

pub returns-then-may_stop : goal.returns-then-may_stop
returns-then-may_stop c =
    let test = may_stop c.args.image.now c.args.notes.now c.args.from c.args.c.now in
    sym (found_here test c.loop-at.at (omega (arith, c.loop-at-test.true)) (sym c.may_stop.ensures ∙ c.if-may_stop.true)) ∙ c.loop-at.invariant

pub loop-at-preserved : goal.loop-at-preserved
loop-at-preserved c =
    let test = may_stop c.args.image.now c.args.notes.now c.args.from c.args.c.now in
    sym (not_here test c.loop-at.at (omega (arith, c.loop-at-test.true)) (sym c.may_stop.ensures ∙ c.if-may_stop.false)) ∙ c.loop-at.invariant

pub returns : goal.returns
returns c =
    let test = may_stop c.args.image.now c.args.notes.now c.args.from c.args.c.now in
    sym (none_left test c.loop-at.at (omega (arith, c.loop-at-test.false))) ∙ c.loop-at.invariant
