use Rattle.std.proofs.Common.{List, ◌++◌, sym, ◌∙◌, ap, append-nil, append_assoc}
use Rattle.kc_vcd.specs.declared.variable.Variable.{Variable}
use Rattle.kc_vcd.specs.Variables.{outputs, output_at}
use Rattle.kc_vcd.proofs.Pieces.{outputs-none, outputs-more}
use Rattle.kc_vcd.proofs.shown.push_outputs.Goals as goal

pub loop-pin-init : goal.loop-pin-init
loop-pin-init c = sym (ap (λ (t : List Variable). c.args.variables.now.items ++ t) outputs-none ∙ append-nil c.args.variables.now.items)

pub loop-pin-preserved : goal.loop-pin-preserved
loop-pin-preserved c =
    let before = c.args.variables.now.items in
    let done = c.loop-pin.pin in
    c.in_ok-push_output.ensures
    ∙ ap (λ (t : List Variable). t ++ output_at done) c.loop-pin.invariant
    ∙ append_assoc before (outputs done) (output_at done)
    ∙ ap (λ (t : List Variable). before ++ t) (sym (outputs-more done))
