use Rattle.std.proofs.Common.{refl, sym, subst}
use Rattle.kc_trace.specs.Trace.{out_of}
use Rattle.kc_debug.specs.Sitting.{seen}
use Rattle.kc_debug.specs.Stands.{at_once_in, states_of, FailsIn}
use Rattle.kc_debug.specs.Stops.{activity_states}
use Rattle.kc_debug.specs.Transcript.{after_command}
use Rattle.kc_machine_spec.proofs.Calls.{on-fault}
use Rattle.kc_debug.proofs.Going.{fails-said}
use Rattle.kc_debug.proofs.session.Sitting.carry_out.Goals as goal

pub returns-in-Registers-clause-fails : goal.returns-in-Registers-clause-fails
returns-in-Registers-clause-fails g c =
    let f = g.X.Extra.further in
    let m = c.args.machine.now.machine in
    let d = seen m c.args.self.now in
    let o = out_of g.S.Sink.written g.S.Sink.faults c.args.out.now in
    let p = out_of g.S.Sink.written g.S.Sink.faults c.write_registers.new.out in
    on-fault c.write_registers.result c.write_registers.ensures.failed (λ failed.
    subst (λ k. FailsIn f (at_once_in k) (states_of f k d) (after_command f c.args.lines.now k d).text m o m p) (sym c.in-Registers.is)
    (fails-said f activity_states _ m o m p refl c.requires.unbroken c.write_registers.ensures.lines failed))

pub returns-in-Show-clause-fails : goal.returns-in-Show-clause-fails
returns-in-Show-clause-fails g c =
    let f = g.X.Extra.further in
    let m = c.args.machine.now.machine in
    let n = c.show.new.machine.machine in
    let d = seen m c.args.self.now in
    let o = out_of g.S.Sink.written g.S.Sink.faults c.args.out.now in
    let p = out_of g.S.Sink.written g.S.Sink.faults c.show.new.out in
    on-fault c.show.result c.show.ensures.fault.failed (λ failed.
    subst (λ k. FailsIn f (at_once_in k) (states_of f k d) (after_command f c.args.lines.now k d).text m o n p) (sym c.in-Show.is)
    (fails-said f activity_states _ m o n p c.show.ensures.same c.requires.unbroken c.show.ensures.text failed))

pub returns-in-History-clause-fails : goal.returns-in-History-clause-fails
returns-in-History-clause-fails g c =
    let f = g.X.Extra.further in
    let m = c.args.machine.now.machine in
    let d = seen m c.args.self.now in
    let o = out_of g.S.Sink.written g.S.Sink.faults c.args.out.now in
    let p = out_of g.S.Sink.written g.S.Sink.faults c.report_history.new.out in
    on-fault c.report_history.result c.report_history.ensures.fault.failed (λ failed.
    subst (λ k. FailsIn f (at_once_in k) (states_of f k d) (after_command f c.args.lines.now k d).text m o m p) (sym c.in-History.is)
    (fails-said f activity_states _ m o m p refl c.requires.unbroken c.report_history.ensures.text failed))
