use Rattle.kc_kit_bound.proofs.LineLemmas.{shut-put}
use Rattle.kc_kit_bound.proofs.told.put_shut.Goals as goal

pub returns : goal.returns
returns c = shut-put c.args.text.now.items c.put_states.new.text.items c.put_states-2.new.text.items c.args.from c.args.most c.from.result c.from-2.result c.from.ensures c.from-2.ensures c.in_ok-put_states.ensures c.in_ok-put_states-2.ensures
