use Rattle.kc_kit_laws.proofs.ReadableLemmas.{written_is_readable}
use Rattle.kc_kit_laws.proofs.written_is_readable.Goals as goal

pub returns : goal.returns
returns c = written_is_readable
