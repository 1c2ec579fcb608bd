use Rattle.std.proofs.Common.{◌≡◌, ◌+◌, inl, inr, suc, true, false, refl, arith}
use Rattle.kc_asm_origin.specs.First.{with_first}
use Rattle.kc_asm_origin.specs.Reported.{Reports}
use Rattle.kc_asm_origin.specs.Origin.{middle, IsHalved}
use Rattle.kc_asm_origin.proofs.seeking.faulty_line.Goals as goal

pub loop-low-preserved-then-branch : goal.loop-low-preserved-then-branch
unfolding IsHalved
loop-low-preserved-then-branch c =
    let reported : Reports (with_first c.args.fault.0 (middle c.loop-low.low c.loop-low.high) c.args.text.now) c.args.fault true = rw c.if-branch.true at c.in_ok-reports_with.ensures in
    record {
      below = omega arith;
      within = omega arith;
      with = reported;
      without = c.loop-low.invariant.without;
      halved = λ k rounds h. c.loop-low.invariant.halved k (suc rounds) (c.loop-low-test.true, inl (reported, h));
    }

pub loop-low-preserved : goal.loop-low-preserved
unfolding IsHalved
loop-low-preserved c =
    let unreported : Reports (with_first c.args.fault.0 (middle c.loop-low.low c.loop-low.high) c.args.text.now) c.args.fault false = rw c.if-branch.false at c.in_ok-reports_with.ensures in
    record {
      below = omega arith;
      within = c.loop-low.invariant.within;
      with = c.loop-low.invariant.with;
      without = unreported;
      halved = λ k rounds h. c.loop-low.invariant.halved k (suc rounds) (c.loop-low-test.true, inr (unreported, h));
    }

pub returns : goal.returns
unfolding IsHalved
returns c =
    let last : c.loop-low.high ≡ c.loop-low.low + 1 = omega arith in
    let found = c.loop-low.invariant.halved c.loop-low.low 0 (last, refl) in
    ((c.loop-low.invariant.without, rw (← last) c.loop-low.invariant.with), found.0, found.1)
