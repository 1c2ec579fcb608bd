use Rattle.std.proofs.Common.{◌≡◌, ◌∙◌, ap, sym, arith}
use Rattle.kc_base.specs.Bits.{bit}
use Rattle.kc_intc.specs.Choosing.{greatest}
use Rattle.kc_intc.proofs.requests.highest.Goals as goal

pub returns-clause-value : goal.returns-clause-value
unfolding greatest
returns-clause-value c = let end : c.loop-n.n ≡ 0 = omega (arith, c.loop-n-test.false) in sym (c.loop-n.invariant.above ∙ ap (greatest (bit c.args.set)) end)
