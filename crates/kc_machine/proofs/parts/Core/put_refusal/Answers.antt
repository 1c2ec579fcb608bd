use Rattle.std.proofs.Common.{◌∷◌, [], ap, subst}
use Rattle.kc_trace.specs.Out.{Prints}
use Rattle.kc_trace.proofs.Printed.{Prints-append, Prints-one}
use Rattle.kc_trace.specs.Trace.{out_of}
use Rattle.kc_machine_spec.specs.Board.{pins}
use Rattle.kc_machine_spec.specs.Machine.{Stepped}
use Rattle.kc_machine.proofs.parts.Core.put_refusal.Goals as goal

pub returns-clause-machine : goal.returns-clause-machine
returns-clause-machine g c = ap (λ (s : Stepped _). s.machine) c.break_off-record.ensures.machine

pub returns-clause-lines : goal.returns-clause-lines
returns-clause-lines g c =
    subst (λ (s : Stepped _). Prints (out_of g.S.Sink.written g.S.Sink.faults c.args.out.now) s.records (out_of g.S.Sink.written g.S.Sink.faults c.put_one.new.out)) c.break_off-record.ensures.machine
    (Prints-append _ (pins c.args.self.now.time c.break_off-record.new.self.bus.edges) _ (c.break_off-record.result ∷ []) _ c.put_edges.ensures (Prints-one _ c.break_off-record.result _ c.put_one.ensures))
