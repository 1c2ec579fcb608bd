use Rattle.std.proofs.Common.{List, All, sym, ◌∙◌, ap, subst}
use Rattle.kc_base.specs.Pins.{IsPin}
use Rattle.kc_base.specs.declared.types.Edge.{Edge}
use Rattle.kc_extra.specs.Rising.{named_edges}
use Rattle.kc_span.specs.DeferredUnit.{deferred_at, shown}
use Rattle.kc_block_units.specs.Scheduler.{further_goes}
use Rattle.kc_block_tick.proofs.units.tick_further.Goals as goal

pub lead_all-requires : goal.lead_all-requires
lead_all-requires g c =
    let f = g.X.Extra.further in
    let d = shown (further_goes f) (deferred_at c.args.deferred.now.at (g.X.Extra.plain c.args.deferred.now.unit)) c.args.now in
    let edges = c.as_slice.ensures.edges
    ∙ ap (λ o. o.moved) c.tick-given.ensures.out
    ∙ ap (λ x. (f.out c.args.now c.args.levels c.args.edges x).moved) c.quiet_to.ensures.plain in
    subst (λ (es : List Edge). All (λ edge. IsPin edge.pin.0) es) (sym edges)
    (named_edges g.X.Extra.pins 0 (f.out c.args.now c.args.levels c.args.edges d).moved (g.met.X.Extra.few_pins d).named
    (g.met.X.Extra.moves_some c.args.now c.args.levels c.args.edges d c.requires.agrees))
