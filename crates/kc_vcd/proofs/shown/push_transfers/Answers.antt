use Rattle.std.proofs.Common.{List, [], ◌∷◌, ◌++◌, sym, ◌∙◌, ap, append-nil, append_assoc}
use Rattle.kc_vcd.specs.declared.variable.Variable.{Variable}
use Rattle.kc_vcd.specs.declared.variable.Variable.TheVariants.{Transfer}
use Rattle.kc_vcd.specs.Variables.{transfers}
use Rattle.kc_vcd.proofs.Pieces.{transfers-none, transfers-more}
use Rattle.kc_vcd.proofs.shown.push_transfers.Goals as goal

pub loop-number-init : goal.loop-number-init
loop-number-init c = sym (ap (λ (t : List Variable). c.args.variables.now.items ++ t) transfers-none ∙ append-nil c.args.variables.now.items)

pub loop-number-preserved : goal.loop-number-preserved
loop-number-preserved c =
    let before = c.args.variables.now.items in
    let done = c.loop-number.number in
    c.in_ok-push.ensures
    ∙ ap (λ (t : List Variable). t ++ (Transfer done ∷ [])) c.loop-number.invariant
    ∙ append_assoc before (transfers done) ((Transfer done ∷ []))
    ∙ ap (λ (t : List Variable). before ++ t) (sym (transfers-more done))
