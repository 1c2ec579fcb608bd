use Rattle.std.proofs.Common.{◌≡◌, ℕ, ◌+◌, ◌-◌, ◌*◌, ◌∙◌, ap, subst, List, arith}
use Rattle.kc_intc.specs.declared.requests.Requests.{Requests}
use Rattle.kc_trace.specs.declared.record.Record.{Record}
use Rattle.kc_trace.specs.Out.{Prints}
use Rattle.kc_trace.specs.Trace.{out_of}
use Rattle.kc_machine.specs.Passing.{ticks_to}
use Rattle.kc_machine.specs.Seen.{machine_of}
use Rattle.kc_machine.proofs.Ticked.{ticked-machine, ticked-lines, ticked-touch, ticked-raised, ticked-scene}
use Rattle.kc_machine.proofs.parts.Core.tick.Goals as goal

pub returns-clause-goes : goal.returns-clause-goes
returns-clause-goes g c =
    let f = g.X.Extra.further in
    let old = c.args.self.now in
    let took = c.withdraw-pending.ensures.scene in
    let went = c.advance.ensures.goes in
    let now : old.time + (1 - 1) ≡ old.time = omega arith in
    let touch = ticked-touch f old c.withdraw-pending.new.self took in
    record {
      machine =
          ticked-machine f old c.withdraw-pending.new.self (old.time + (1 - 1)) c.advance.new.self c.raise.new.self c.withdraw-pending.result.0 c.withdraw-pending.ensures.pending took went.machine c.raise.ensures.scene
          ∙ ap (λ n. (ticks_to f (machine_of old) n 1 old.under_way).machine) now;
      lines = subst (λ (xs : List Record). Prints (out_of g.S.Sink.written g.S.Sink.faults c.args.out.now) xs (out_of g.S.Sink.written g.S.Sink.faults c.advance.new.out)) (ticked-lines f old c.withdraw-pending.new.self took) went.lines;
      costs = record {
        spent = omega (arith, touch, went.costs.spent);
        moves = omega (arith, touch, went.costs.moves, c.withdraw-pending.ensures.none.moves, c.raise.ensures.none.moves);
      };
    }

pub returns-clause-scene : goal.returns-clause-scene
returns-clause-scene g c = ticked-scene g.X.Extra.further c.advance.new.self c.raise.new.self c.withdraw-pending.result.0 c.advance.ensures.scene c.raise.ensures.scene

pub returns-clause-raised : goal.returns-clause-raised
returns-clause-raised g c =
    let old = c.args.self.now in
    ap (λ (r : Requests). r.pending) c.requests.ensures
    ∙ ticked-raised g.X.Extra.further old c.withdraw-pending.new.self (old.time + (1 - 1)) c.advance.new.self c.withdraw-pending.ensures.scene c.advance.ensures.goes.machine
