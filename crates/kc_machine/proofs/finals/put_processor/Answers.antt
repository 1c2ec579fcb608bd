use Rattle.std.proofs.Common.{◌+◌, ◌*◌, ◌∙◌, ap, subst}
use Rattle.kc_exec_spec.specs.declared.access.Masks.{Masks}
use Rattle.kc_trace.specs.declared.record.Record.TheVariants.{Psw, Wsr}
use Rattle.kc_trace.specs.Out.{IsPut}
use Rattle.kc_trace.specs.Trace.{out_of}
use Rattle.kc_trace.proofs.Printed.{Prints-cons, Prints-one}
use Rattle.kc_machine.proofs.finals.put_processor.Goals as goal

pub returns : goal.returns
returns g c =
    let high = 256 * c.args.core.now.cpu.psw_high in
    Prints-cons _ _ _ _ _ c.put_one.ensures
    (Prints-cons _ _ _ _ _
    (subst (λ n. IsPut (out_of g.S.Sink.written g.S.Sink.faults c.put_one.new.out) (Psw n) (out_of g.S.Sink.written g.S.Sink.faults c.put_one-2.new.out)) (c.word.ensures ∙ ap (λ (m : Masks). high + m.int_mask) c.masks.ensures.value) c.put_one-2.ensures)
    (Prints-one _ _ _
    (subst (λ (m : Masks). IsPut (out_of g.S.Sink.written g.S.Sink.faults c.put_one-2.new.out) (Wsr m.wsr) (out_of g.S.Sink.written g.S.Sink.faults c.put_one-3.new.out)) c.masks-2.ensures.value c.put_one-3.ensures)))
