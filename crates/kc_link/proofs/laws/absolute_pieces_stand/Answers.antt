use Rattle.kc_link.proofs.LawLemmas.{absolute_pieces_stand}
use Rattle.kc_link.proofs.laws.absolute_pieces_stand.Goals as goal

pub returns : goal.returns
returns c = absolute_pieces_stand
