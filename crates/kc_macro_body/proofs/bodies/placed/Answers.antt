use Rattle.std.proofs.Common.{◌+◌, drop, ap, ◌∙◌, arith, drop_of_length-le}
use Rattle.kc_macro_body.specs.Bodies.{with_local}
use Rattle.kc_macro_body.proofs.ArgumentLemmas.{prefix_of}
use Rattle.kc_macro_body.proofs.BodyLemmas.{placed_more, placed_end}
use Rattle.kc_macro_body.proofs.bodies.placed.Goals as goal

pub loop-name-preserved : goal.loop-name-preserved
loop-name-preserved c =
    let names = c.args.names.now in
    record {
      few = omega (arith, c.loop-name.invariant.few, c.in_ok-add_local.ensures.small);
      kept = placed_more c.args.params.now c.loop-name.locals c.add_local.new.locals _ c.name-item.result (drop (c.loop-name.name-index + 1) names) (drop c.loop-name.name-index names)
          (prefix_of names c.loop-name.name-index c.name-item.result (omega arith) c.name-item.is) (c.in_ok-add_local.ensures.value ∙ ap (with_local c.args.params.now c.loop-name.locals) c.as_slice.ensures) c.loop-name.invariant.kept;
    }

pub returns : goal.returns
returns c = placed_end c.args.params.now c.loop-name.locals _ (drop c.loop-name.name-index c.args.names.now) (drop_of_length-le c.args.names.now {i = c.loop-name.name-index} (omega arith)) c.loop-name.invariant.kept
