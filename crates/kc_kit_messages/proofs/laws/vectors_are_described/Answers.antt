use Rattle.kc_kit_messages.proofs.Explained.{vectors_are_described}
use Rattle.kc_kit_messages.proofs.laws.vectors_are_described.Goals as goal

pub returns : goal.returns
returns c = vectors_are_described
