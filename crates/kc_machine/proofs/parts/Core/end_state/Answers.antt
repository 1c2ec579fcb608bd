use Rattle.std.proofs.Common.{◌++◌, ◌∙◌, ap, sym, subst, List, arith}
use Rattle.std.specs.Prelude.{option_to_list}
use Rattle.kc_trace.specs.declared.record.Record.{Record}
use Rattle.kc_machine_spec.specs.Board.{pins, edges_in}
use Rattle.kc_machine_spec.specs.Machine.{Stepped, finished}
use Rattle.kc_trace.specs.Out.{Prints}
use Rattle.kc_trace.proofs.Printed.{Prints-append}
use Rattle.kc_trace.specs.Trace.{out_of}
use Rattle.kc_machine.specs.Seen.{machine_of}
use Rattle.kc_machine.proofs.Going.{goes-same}
use Rattle.kc_machine.proofs.Ticked.{whole-last}
use Rattle.kc_machine.proofs.parts.Core.end_state.Goals as goal

pub returns-clause-goes : goal.returns-clause-goes
returns-clause-goes g c =
    let f = g.X.Extra.further in
    let m = machine_of c.args.self.now in
    let ticked = c.tick-raised.ensures.goes in
    let led = c.finish-last.ensures.over.machine ∙ ap (finished f c.args.activity.doing) ticked.machine in
    let edges : List Record = edges_in f c.args.self.now.time 1 c.args.self.now.bus.block.units in
    let cost = ap (λ (s : Stepped _). s.touch) led in
    goes-same (sym (whole-last f m c.args.activity c.requires.last)) (record {
      machine = ap (λ (s : Stepped _). s.machine) led;
      lines = subst (λ (s : Stepped _). Prints (out_of g.S.Sink.written g.S.Sink.faults c.args.out.now) (edges ++ s.records) (out_of g.S.Sink.written g.S.Sink.faults c.put_last.new.out)) led
          (Prints-append _ edges _ (pins c.tick-raised.new.self.time c.finish-last.new.self.bus.edges ++ option_to_list c.finish-last.result) _ ticked.lines
          (Prints-append _ (pins c.tick-raised.new.self.time c.finish-last.new.self.bus.edges) _ (option_to_list c.finish-last.result) _ c.put_edges.ensures c.put_last.ensures));
      costs = record {
        spent = omega (arith, cost, ticked.costs.spent, c.finish-last.ensures.within.costs.spent);
        moves = omega (arith, cost, ticked.costs.moves, c.finish-last.ensures.within.costs.moves);
      };
    })
