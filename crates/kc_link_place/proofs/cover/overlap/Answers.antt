use Rattle.std.proofs.Common.{◌+◌, ◌-◌, refl, sym, ◌∙◌, arith}
use Rattle.std.specs.Prelude.{nat_le}
use Rattle.kc_link_place.specs.Stands.{how_many}
use Rattle.kc_link_place.specs.Placing.{overlap}
use Rattle.kc_link_place.proofs.Covers.{least_more, least_here, least_end, two_true, two_false}
use Rattle.kc_link_place.proofs.cover.overlap.Goals as goal

pub loop-address-init : goal.loop-address-init
unfolding overlap
loop-address-init c = λ stands h. refl

pub returns-then-cover-address-ge2 : goal.returns-then-cover-address-ge2
returns-then-cover-address-ge2 c = λ stands h.
    let a = c.loop-address.address in
    sym (least_here (λ b. nat_le 2 (how_many stands b)) (65536 - a) a (omega arith) (two_true _ _ c.if-cover-address-ge2.true (h.1 a c.loop-address-test.true)))
    ∙ c.loop-address.invariant stands h

pub loop-address-preserved : goal.loop-address-preserved
loop-address-preserved c = λ stands h.
    let a = c.loop-address.address in
    sym (least_more (λ b. nat_le 2 (how_many stands b)) (65536 - a) a (65536 - (a + 1)) (a + 1) (omega arith) refl (two_false _ _ c.if-cover-address-ge2.false (h.1 a c.loop-address-test.true)))
    ∙ c.loop-address.invariant stands h

pub returns : goal.returns
returns c = λ stands h.
    let a = c.loop-address.address in
    sym (least_end (λ b. nat_le 2 (how_many stands b)) (65536 - a) a (omega arith)) ∙ c.loop-address.invariant stands h
