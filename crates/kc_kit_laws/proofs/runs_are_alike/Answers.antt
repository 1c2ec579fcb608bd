use Rattle.kc_kit_laws.proofs.AlikeLemmas.{alike}
use Rattle.kc_kit_laws.proofs.runs_are_alike.Goals as goal

pub returns : goal.returns
returns c = alike c.modules_fit.ensures c.filled_are_bytes.ensures c.sources_are_read_well.ensures c.linked_image.ensures c.spelled_is_decoded.ensures c.written_is_read.ensures
