use Rattle.std.proofs.Common.{◌++◌, ◌∙◌, ap, subst, List, arith}
use Rattle.std.specs.Prelude.{option_to_list}
use Rattle.kc_trace.specs.declared.record.Record.{Record}
use Rattle.kc_machine_spec.specs.Board.{pins, edges_in}
use Rattle.kc_machine_spec.specs.Machine.{Stepped, finished}
use Rattle.kc_trace.specs.Out.{Prints}
use Rattle.kc_trace.proofs.Printed.{Prints-append}
use Rattle.kc_trace.specs.Trace.{out_of}
use Rattle.kc_machine.proofs.parts.Core.complete.Goals as goal

pub returns-clause-goes : goal.returns-clause-goes
returns-clause-goes g c =
    let led = c.finish-last.ensures.over.machine ∙ ap (finished g.X.Extra.further c.args.activity.doing) (rw c.from-left.ensures at c.advance.ensures.goes.machine) in
    let edges : List Record = edges_in g.X.Extra.further c.args.self.now.time c.args.activity.left c.args.self.now.bus.block.units in
    let cost = ap (λ (s : Stepped _). s.touch) led in
    let ticks = rw c.from-left.ensures at c.advance.ensures.goes.costs in
    record {
      machine = ap (λ (s : Stepped _). s.machine) led;
      lines = subst (λ (s : Stepped _). Prints (out_of g.S.Sink.written g.S.Sink.faults c.args.out.now) (edges ++ s.records) (out_of g.S.Sink.written g.S.Sink.faults c.put_last.new.out)) led
          (Prints-append _ edges _ (pins c.advance.new.self.time c.finish-last.new.self.bus.edges ++ option_to_list c.finish-last.result) _ (rw c.from-left.ensures at c.advance.ensures.goes.lines)
          (Prints-append _ (pins c.advance.new.self.time c.finish-last.new.self.bus.edges) _ (option_to_list c.finish-last.result) _ c.put_edges.ensures c.put_last.ensures));
      costs = record {
        spent = omega (arith, cost, ticks.spent, c.finish-last.ensures.within.costs.spent);
        moves = omega (arith, cost, ticks.moves, c.finish-last.ensures.within.costs.moves);
      };
    }
