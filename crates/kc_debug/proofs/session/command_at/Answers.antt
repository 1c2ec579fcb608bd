use Rattle.std.proofs.lemmas.List.{drop_more}
use Rattle.kc_debug.proofs.session.command_at.Goals as goal

pub returns-clause-here : goal.returns-clause-here
returns-clause-here c = drop_more c.args.commands.now c.args.index _ c.requires.within

pub returns-clause-bounded : goal.returns-clause-bounded
returns-clause-bounded c = c.requires.bounded.each c.args.index _ c.requires.within
