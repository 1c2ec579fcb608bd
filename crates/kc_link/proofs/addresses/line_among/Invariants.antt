use Rattle.std.proofs.Common.{◌≡◌, ◌+◌, length}
use Rattle.kc_link.specs.SourceLine.{source_line_by}
use Rattle.kc_link.proofs.addresses.line_among.Given as goal

abbrev pub invariant-loop-left : goal.invariant-loop-left
invariant-loop-left l = record {
  goes_on : source_line_by l.addr l.index l.left l.ahead ≡ source_line_by l.addr 0 l.fn.modules l.fn.bases;
  count : l.index + length l.left ≡ length l.fn.modules;
}

abbrev pub decreases-loop-left : goal.decreases-loop-left
decreases-loop-left l = length l.left
