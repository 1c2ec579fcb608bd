use Rattle.std.proofs.Common.{◌≡◌, drop, ap, ◌∙◌}
use Rattle.kc_macro_body.specs.Arguments.{arguments}
use Rattle.kc_macro_input.specs.Filled.{seen_filled}
use Rattle.kc_macro.specs.Steps.{call_fault}
use Rattle.kc_macro.proofs.calling.call_of.Goals as goal

pub returns-clause-fault : goal.returns-clause-fault
returns-clause-fault c =
    let args : c.as_slice-2.result.now ≡ arguments (drop 1 c.args.tokens.now) = c.as_slice-2.ensures ∙ c.in_ok-args.ensures ∙ ap arguments c.behind_first.ensures in
    c.call_fault-fault.ensures ∙ ap (λ list. call_fault c.args.left c.args.given c.args.from.now c.args.item.now list (seen_filled c.in_ok-text.text)) args
