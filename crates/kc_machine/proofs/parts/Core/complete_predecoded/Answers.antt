use Rattle.std.proofs.Common.{◌≡◌, ◌++◌, ◌∙◌, not, ap, subst, List, arith}
use Rattle.kc_trace.specs.declared.record.Record.{Record}
use Rattle.kc_machine_spec.specs.declared.doing.Activity.TheVariants.{Executes}
use Rattle.kc_machine_spec.specs.Board.{pins, edges_in}
use Rattle.kc_machine_spec.specs.Machine.{Machine, Stepped, finished, broken}
use Rattle.kc_trace.specs.Out.{Prints}
use Rattle.kc_trace.proofs.Printed.{Prints-append}
use Rattle.kc_trace.specs.Trace.{out_of}
use Rattle.kc_extra.specs.declared.extra.Extra as extra
use Rattle.kc_machine.specs.declared.common.Common.{Common}
use Rattle.std.proofs.lemmas.Bool.{OnTrue_from, not-true}
use Rattle.kc_machine.specs.Bus.{held_of}
use Rattle.kc_machine.specs.Prepared.{IsFree}
use Rattle.kc_machine.specs.Seen.{machine_of}
use Rattle.kc_machine.proofs.parts.Core.complete_predecoded.Goals as goal

moves-same : {X : Type 0} {d : extra.Ghosts X} (old new : Common X d) → new ≡ old → new.block.moves ≡ old.block.moves
moves-same old new same = ap (λ (bus : Common _ _). bus.block.moves) same

pub returns-in-Ok-clause-goes : goal.returns-in-Ok-clause-goes
returns-in-Ok-clause-goes g c =
    let led = c.in-Ok.ensures.ok ∙ ap (finished g.X.Extra.further (Executes c.args.predecoded.now.insn)) (rw c.from-left.ensures at c.advance.ensures.goes.machine) in
    let edges : List Record = edges_in g.X.Extra.further c.args.self.now.time c.args.states c.args.self.now.bus.block.units in
    let cost = ap (λ (s : Stepped _). s.touch) led in
    let ticks = rw c.from-left.ensures at c.advance.ensures.goes.costs in
    record {
      machine = ap (λ (s : Stepped _). s.machine) led;
      lines = subst (λ (s : Stepped _). Prints (out_of g.S.Sink.written g.S.Sink.faults c.args.out.now) (edges ++ s.records) (out_of g.S.Sink.written g.S.Sink.faults c.put_edges.new.out)) led
          (Prints-append _ edges _ (pins c.advance.new.self.time c.execute_predecoded.new.self.bus.edges) _ (rw c.from-left.ensures at c.advance.ensures.goes.lines) c.put_edges.ensures);
      costs = record {
        spent = omega (arith, cost, ticks.spent, c.execute_predecoded.ensures.within.costs.spent);
        moves = omega (arith, cost, ticks.moves, c.execute_predecoded.ensures.within.costs.moves);
      };
    }

pub execute_predecoded-requires-clause-begun : goal.execute_predecoded-requires-clause-begun
execute_predecoded-requires-clause-begun g c = ap (λ (m : Machine _). m.under_way) c.advance.ensures.goes.machine ∙ c.requires.between.begun

pub execute_predecoded-requires-clause-alone : goal.execute_predecoded-requires-clause-alone
execute_predecoded-requires-clause-alone g c = ap (λ (m : Machine _). m.going) c.advance.ensures.goes.machine ∙ c.requires.between.alone

pub returns-in-Err-clause-goes : goal.returns-in-Err-clause-goes
returns-in-Err-clause-goes g c =
    let led = c.in-Err.ensures.err ∙ ap (finished g.X.Extra.further (Executes c.args.predecoded.now.insn)) (rw c.from-left.ensures at c.advance.ensures.goes.machine) in
    let edges : List Record = edges_in g.X.Extra.further c.args.self.now.time c.args.states c.args.self.now.bus.block.units in
    let cost = ap (λ (s : Stepped _). s.touch) led in
    let ticks = rw c.from-left.ensures at c.advance.ensures.goes.costs in
    let same = moves-same c.execute_predecoded.new.self.bus c.put_refusal.new.self.bus c.put_refusal.ensures.bus in
    record {
      machine = c.put_refusal.ensures.machine ∙ ap (λ (s : Stepped _). s.machine) led;
      lines = subst (λ (s : Stepped _). Prints (out_of g.S.Sink.written g.S.Sink.faults c.args.out.now) (edges ++ s.records) (out_of g.S.Sink.written g.S.Sink.faults c.put_refusal.new.out)) led
          (Prints-append _ edges _ (broken (machine_of c.execute_predecoded.new.self) (held_of c.execute_predecoded.new.self.bus) c.execute_predecoded.new.self.cpu.pc c.in-Err.kind).records _ (rw c.from-left.ensures at c.advance.ensures.goes.lines) c.put_refusal.ensures.lines);
      costs = record {
        spent = omega (arith, cost, ticks.spent, c.execute_predecoded.ensures.within.costs.spent);
        moves = omega (arith, cost, ticks.moves, c.execute_predecoded.ensures.within.costs.moves, same);
      };
    }

pub returns-in-Ok-clause-free : goal.returns-in-Ok-clause-free
returns-in-Ok-clause-free g c = OnTrue_from (not c.in-Ok.held) (IsFree (machine_of c.execute_predecoded.new.self)) (λ free. record {
  begun = c.execute_predecoded.ensures.over;
  alone = c.execute_predecoded.ensures.going;
  unheld = c.in-Ok.ensures.held ∙ not-true c.in-Ok.held free;
  lives = c.execute_predecoded.ensures.lives;
})
