use Rattle.std.proofs.Common.{◌≡◌, take}
use Rattle.kc_kit_answer.specs.Lines.{map_text}
use Rattle.kc_kit_answer.proofs.line_map.map_text.Given as goal

abbrev pub invariant-loop-entry : goal.invariant-loop-entry
invariant-loop-entry l = l.text.items ≡ map_text (take l.entry-index l.entries)
