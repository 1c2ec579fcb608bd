use Rattle.kc_debug_script.proofs.Limits.{scripts_are_commands}
use Rattle.kc_debug_script.proofs.laws.scripts_are_commands.Goals as goal

pub returns : goal.returns
returns c = scripts_are_commands
