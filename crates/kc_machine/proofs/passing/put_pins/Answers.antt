use Rattle.std.proofs.Common.{[], refl, sym, subst}
use Rattle.std.proofs.lemmas.List.{take_more}
use Rattle.kc_trace.specs.Out.{Prints}
use Rattle.kc_trace.specs.Trace.{out_of}
use Rattle.kc_trace.proofs.Printed.{Prints-none}
use Rattle.kc_machine_spec.specs.Board.{pins}
use Rattle.kc_machine.proofs.Pins.{pins-more}
use Rattle.kc_machine.proofs.passing.put_pins.Goals as goal

pub loop-edge-init : goal.loop-edge-init
loop-edge-init g c = Prints-none [] _ refl

pub loop-edge-preserved : goal.loop-edge-preserved
loop-edge-preserved g c =
    subst (λ xs. Prints (out_of g.S.Sink.written g.S.Sink.faults c.args.out.now) (pins c.args.at xs) (out_of g.S.Sink.written g.S.Sink.faults c.put_one.new.out))
    (sym (take_more c.args.edges.now c.loop-edge.edge-index _ c.loop-edge-test.true))
    (pins-more _ _ _ c.args.at _ _ c.loop-edge.invariant c.put_one.ensures)
