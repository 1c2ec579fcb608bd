use Rattle.kc_lib.proofs.ReadingLemmas.{read_is_library}
use Rattle.kc_lib.proofs.laws.read_is_library.Goals as goal

pub returns : goal.returns
returns c = read_is_library
