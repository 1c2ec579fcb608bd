use Rattle.kc_profile.proofs.Few.{few-added}
use Rattle.kc_profile.proofs.statistics.Statistics.add.Goals as goal

pub returns-clause-few : goal.returns-clause-few
returns-clause-few c = λ n m few later.
    few-added n m c.args.self.now c.args.later.now c.add_life.new.self c.add_life.ensures.whole c.add_life.ensures.other c.add_life.ensures.statistics few later
