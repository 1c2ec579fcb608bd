use Rattle.std.proofs.Common.{◌≡◌, None, length}
use Rattle.std.specs.Prelude.{fold}
use Rattle.kc_kit_messages.specs.RuleDiagnostics.{or_later}
use Rattle.kc_kit_messages.proofs.rule_diagnostics.line_of.Given as goal

abbrev pub invariant-loop-left : goal.invariant-loop-left
invariant-loop-left l = fold (or_later l.piece l.offset) None l.fn.entries ≡ fold (or_later l.piece l.offset) l.found l.left

abbrev pub decreases-loop-left : goal.decreases-loop-left
decreases-loop-left l = length l.left
