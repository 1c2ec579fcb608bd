use Rattle.std.proofs.Common.{◌∙◌, ap}
use Rattle.std.specs.Prelude.{ℕ, Option, is_some}
use Rattle.kc_lib.proofs.GiverLemmas.{known_given}
use Rattle.kc_lib.proofs.givers.Givers.gives.Goals as goal

pub returns : goal.returns
returns c = λ modules k. c.is_some.ensures ∙ (ap (λ (o : Option ℕ). is_some o) c.giver.ensures ∙ known_given c.args.self.now.numbers.entries modules c.args.name.now k)
