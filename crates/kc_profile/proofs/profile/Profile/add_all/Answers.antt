use Rattle.std.proofs.Common.{◌++◌, sym, subst}
use Rattle.kc_profile.specs.Tally.{IsTallyOf}
use Rattle.kc_profile.proofs.Together.{both-tally}
use Rattle.kc_profile.proofs.profile.Profile.add_all.Goals as goal

pub returns-clause-tally : goal.returns-clause-tally
returns-clause-tally c = λ before others is other. subst (IsTallyOf (before ++ others)) (sym c.add_numbers.ensures.numbers) (both-tally _ _ is.whole other.whole before others is other)
