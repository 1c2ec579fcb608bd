use Rattle.kc_lib.proofs.ReadingLemmas.{library_is_read}
use Rattle.kc_lib.proofs.laws.library_is_read.Goals as goal

pub returns : goal.returns
returns c = library_is_read
