use Rattle.kc_debug_script.proofs.Spelling.{maps_are_read_back}
use Rattle.kc_debug_script.proofs.laws.maps_are_read_back.Goals as goal

pub returns : goal.returns
returns c = maps_are_read_back
