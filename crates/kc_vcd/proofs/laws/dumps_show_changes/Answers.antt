use Rattle.kc_vcd.proofs.Behind.{shown_changes}
use Rattle.kc_vcd.proofs.laws.dumps_show_changes.Goals as goal

pub returns : goal.returns
returns c = shown_changes
