use Rattle.kc_convert.proofs.SampleLaws.{value_small}
use Rattle.kc_convert.proofs.analog.Analog.value.Goals as goal

pub returns-clause-small : goal.returns-clause-small
returns-clause-small c = rw c.value_at.ensures (value_small c.self.inside.index.samples.items c.args.channel c.args.at c.self.invariant.values.values)
