use Rattle.kc_bound.proofs.StandsAt.{decodes-found}
use Rattle.kc_bound.proofs.laws.found_is_decoded.Goals as goal

pub returns : goal.returns
returns g c = λ image m a is holds low high whole. decodes-found image m.board.memory a holds.rom is.bytes is.whole low high whole
