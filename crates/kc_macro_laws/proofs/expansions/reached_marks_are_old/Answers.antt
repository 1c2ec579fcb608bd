use Rattle.kc_macro_laws.proofs.Course.{reached_marks_are_old}
use Rattle.kc_macro_laws.proofs.expansions.reached_marks_are_old.Goals as goal

pub returns : goal.returns
returns c = reached_marks_are_old
