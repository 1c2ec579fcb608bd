use Rattle.std.proofs.Common.{◌∙◌, sym}
use Rattle.kc_debug_script.proofs.Limits.{bounded_push}
use Rattle.kc_debug_script.proofs.script.next_command.Goals as goal

pub returns-then-may_follow-clause-bounded : goal.returns-then-may_follow-clause-bounded
returns-then-may_follow-clause-bounded c =
    bounded_push c.args.before.now c.in_ok-command.command c.requires c.in_ok-command.ensures.bounded (sym c.may_follow.ensures ∙ c.if-may_follow.true)
