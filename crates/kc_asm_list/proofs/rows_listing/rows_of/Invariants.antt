use Rattle.std.proofs.Common.{◌≡◌, ◌+◌, ◌≤◌, ◌++◌, length}
use Rattle.kc_base.specs.TextLines.{text_lines}
use Rattle.kc_asm_list.specs.Order.{Rises}
use Rattle.kc_asm_list.specs.Rows.{lines_text, listing}
use Rattle.kc_asm_list.proofs.rows_listing.rows_of.Given as goal

abbrev pub invariant-loop-rest : goal.invariant-loop-rest
invariant-loop-rest l = record {
  few : l.line + length l.rest ≤ length l.source + 1;
  rises : Rises l.line l.later;
  goes_on : l.text.items ++ lines_text l.object l.later l.line (text_lines l.rest) ≡ listing l.object l.source l.spots;
}

abbrev pub decreases-loop-rest : goal.decreases-loop-rest
decreases-loop-rest l = length l.rest
