use Rattle.std.proofs.Common.{refl, sym, subst}
use Rattle.kc_base.specs.declared.types.Edge.{Edge}
use Rattle.kc_base.specs.declared.types.Level.TheVariants.{Low}
use Rattle.kc_block_spec.specs.Leading.{Leads}
use Rattle.kc_block_units.proofs.Leads.{leads_on, edges_taken}
use Rattle.kc_block_units.proofs.edges.lead_all.Goals as goal

pub loop-edge-preserved : goal.loop-edge-preserved
loop-edge-preserved g c =
    let none : Edge = record { pin = record { 0 = 0 }; level = Low } in
    subst (λ es. Leads g.O.EdgeOut.led c.args.out.now es c.edge.new.self) (sym (edges_taken c.args.edges.now c.loop-edge.edge-index c.args.at none c.loop-edge-test.true))
    (leads_on g.O.EdgeOut.led _ _ _ _ _ c.loop-edge.invariant (c.edge.new.self, (c.edge.ensures, refl)))
