use Rattle.std.proofs.Common.{List, ◌++◌, sym, ◌∙◌, ap, append-nil, append_assoc}
use Rattle.kc_vcd.specs.declared.variable.Variable.{Variable}
use Rattle.kc_vcd.specs.Variables.{inputs, input_at}
use Rattle.kc_vcd.proofs.Pieces.{inputs-none, inputs-more}
use Rattle.kc_vcd.proofs.shown.push_inputs.Goals as goal

pub loop-pin-init : goal.loop-pin-init
loop-pin-init c = sym (ap (λ (t : List Variable). c.args.variables.now.items ++ t) (inputs-none c.args.stimuli.now) ∙ append-nil c.args.variables.now.items)

pub loop-pin-preserved : goal.loop-pin-preserved
loop-pin-preserved c =
    let before = c.args.variables.now.items in
    let done = c.loop-pin.pin in
    c.in_ok-push_input.ensures
    ∙ ap (λ (t : List Variable). t ++ input_at c.args.stimuli.now done) c.loop-pin.invariant
    ∙ append_assoc before (inputs c.args.stimuli.now done) (input_at c.args.stimuli.now done)
    ∙ ap (λ (t : List Variable). before ++ t) (sym (inputs-more c.args.stimuli.now done))
