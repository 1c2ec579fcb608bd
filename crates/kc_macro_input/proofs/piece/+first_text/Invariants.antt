use Rattle.std.proofs.Common.{length}
use Rattle.kc_macro_input.proofs.piece.+first_text.Given as goal

abbrev pub decreases-first_text : goal.decreases-first_text
decreases-first_text l = length l.marks.now
