use Rattle.std.proofs.Common.{◌≡◌, ◌-◌, length}
use Rattle.std.specs.Prelude.{slice_get}
use Rattle.kc_base.specs.TextLines.{text_lines}
use Rattle.kc_kit_messages.proofs.diagnostics.line_at.Given as goal

abbrev pub invariant-loop-rest : goal.invariant-loop-rest
invariant-loop-rest l = slice_get (text_lines l.text) (l.number - 1) ≡ slice_get (text_lines l.rest) l.before

abbrev pub decreases-loop-rest : goal.decreases-loop-rest
decreases-loop-rest l = length l.rest
