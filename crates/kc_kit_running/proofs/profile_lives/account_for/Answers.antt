use Rattle.kc_kit_running.proofs.SumLemmas.{sum-next}
use Rattle.kc_kit_running.proofs.profile_lives.account_for.Goals as goal

pub returns-clause-sums : goal.returns-clause-sums
returns-clause-sums c = λ lives one is sum count.
    sum-next lives one c.args.life c.args.sums.now.profile c.args.account.now.profile c.add.new.self.profile c.args.sums.now.statistics c.args.account.now.statistics c.add.new.self.statistics is sum count
    c.add.ensures.tally c.add.ensures.statistics c.add.ensures.few
