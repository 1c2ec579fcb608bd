use Rattle.std.proofs.Common.{◌≡◌, ◌^◌, ◌/◌, refl, sym, subst, arith}
use Rattle.std.specs.Int.Bits.{bit_xor}
use Rattle.kc_block_spec.specs.Levels.{edges_below}
use Rattle.kc_block_spec.specs.Touch.{in_state}
use Rattle.kc_block_spec.specs.Leading.{Leads}
use Rattle.kc_block_units.proofs.Leads.{leads_on, edges_next, all_below}
use Rattle.kc_block_units.proofs.edges.lead_edges.Goals as goal

pub loop-pin-init : goal.loop-pin-init
unfolding edges_below
loop-pin-init g c = record { led = refl; within = omega arith }

pub loop-pin-preserved : goal.loop-pin-preserved
loop-pin-preserved g c = record {
  led =
      subst (λ es. Leads g.O.EdgeOut.led c.args.out.now es c.lead_edge.new.out) (sym (edges_next c.args.old c.args.new c.loop-pin.pin c.args.at))
      (leads_on g.O.EdgeOut.led _ _ _ _ _ c.loop-pin.invariant.led c.lead_edge.ensures);
  within = omega (arith, c.loop-pin-test.true);
}

pub returns-else-differ-pin-ne0 : goal.returns-else-differ-pin-ne0
returns-else-differ-pin-ne0 g c =
    let none : (bit_xor c.args.old c.args.new) / 2 ^ c.loop-pin.pin ≡ 0 = grind (arith, c.if-differ-pin-ne0.false) in
    subst (λ es. Leads g.O.EdgeOut.led c.args.out.now (in_state c.args.at es) c.loop-pin.out) (all_below c.args.old c.args.new c.loop-pin.pin c.loop-pin.invariant.within none)
    c.loop-pin.invariant.led
