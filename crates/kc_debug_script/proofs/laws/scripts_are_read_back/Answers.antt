use Rattle.kc_debug_script.proofs.Spelling.{scripts_are_read_back}
use Rattle.kc_debug_script.proofs.laws.scripts_are_read_back.Goals as goal

pub returns : goal.returns
returns c = scripts_are_read_back
