use Rattle.std.proofs.Common.{◌≡◌, ◌+◌, ◌++◌, length}
use Rattle.kc_kit_messages.specs.Origins.{words_of}
use Rattle.kc_kit_messages.specs.RuleDiagnostics.{files_from}
use Rattle.kc_kit_messages.proofs.rule_files.files_of.Given as goal

abbrev pub invariant-loop-left : goal.invariant-loop-left
invariant-loop-left l = record {
  same : files_from (words_of l.origins) l.fault 0 l.fn.modules ≡ l.text.items ++ files_from (words_of l.origins) l.fault l.number l.left;
  within : l.number + length l.left ≡ length l.fn.modules;
}

abbrev pub decreases-loop-left : goal.decreases-loop-left
decreases-loop-left l = length l.left
