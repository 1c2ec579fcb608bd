use Rattle.std.proofs.Common.{◌≡◌, length}
use Rattle.kc_base.specs.TextLines.{text_lines}
use Rattle.kc_debug_script.specs.Reading.{said}
use Rattle.kc_debug_script.specs.Script.{command_after, script_of, AreBounded}
use Rattle.kc_debug_script.proofs.script.Script.read.Given as goal

abbrev pub invariant-loop-rest : goal.invariant-loop-rest
invariant-loop-rest l = (said command_after l.commands.items (text_lines l.rest) ≡ script_of l.bytes) × AreBounded l.commands.items

abbrev pub decreases-loop-rest : goal.decreases-loop-rest
decreases-loop-rest l = length l.rest
