use Rattle.std.proofs.Common.{◌+◌, drop, ap, ◌∙◌, arith, drop_of_length-le}
use Rattle.kc_lex.specs.LineFaults.{lesser}
use Rattle.kc_macro_input.specs.Filled.{fault_of}
use Rattle.kc_macro_input.proofs.FilledLemmas.{prefix_of, faults_more, faults_end}
use Rattle.kc_macro_input.proofs.bodies.turns_fault.Goals as goal

pub loop-arg-preserved : goal.loop-arg-preserved
loop-arg-preserved c head =
    let args = c.args.args.now in
    faults_more c.args.formals.now head c.args.body.now c.arg-item.result (drop (c.loop-arg.arg-index + 1) args) (drop c.loop-arg.arg-index args) c.loop-arg.found c.lesser-found.result _
    (prefix_of args c.loop-arg.arg-index c.arg-item.result (omega arith) c.arg-item.is)
    (c.lesser-found.ensures ∙ ap (lesser c.loop-arg.found) (c.fault_of.ensures ∙ ap fault_of c.in_ok-turn.ensures)) (c.loop-arg.invariant head)

pub returns : goal.returns
returns c head =
    faults_end c.args.formals.now head c.args.body.now (drop c.loop-arg.arg-index c.args.args.now) c.loop-arg.found _ (drop_of_length-le c.args.args.now {i = c.loop-arg.arg-index} (omega arith)) (c.loop-arg.invariant head)
