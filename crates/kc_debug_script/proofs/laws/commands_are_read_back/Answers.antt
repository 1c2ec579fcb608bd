use Rattle.kc_debug_script.proofs.Spelling.{commands_are_read_back}
use Rattle.kc_debug_script.proofs.laws.commands_are_read_back.Goals as goal

pub returns : goal.returns
returns c = commands_are_read_back
