use Rattle.kc_kit_messages.proofs.Distinct.{codes_differ}
use Rattle.kc_kit_messages.proofs.laws.codes_differ.Goals as goal

pub returns : goal.returns
returns c = codes_differ
