use Rattle.std.proofs.Common.{◌≡◌, [], rules}
use Rattle.kc_vcd.proofs.Declared.{all_put}
use Rattle.kc_vcd.proofs.shown.variables_in.Goals as goal

pub returns-clause-known : goal.returns-clause-known
returns-clause-known c =
    let none : c.new-variables.result.items ≡ [] = search rules in
    all_put c.args.stimuli.now c.args.samples.now _ _ _ _ _ _ _ _ none c.in_ok-push_outputs.ensures c.in_ok-push_inputs.ensures c.in_ok-push_channels.ensures c.in_ok-push_entries.ensures c.in_ok-push_transfers.ensures c.in_ok-push.ensures c.in_ok-push-2.ensures
