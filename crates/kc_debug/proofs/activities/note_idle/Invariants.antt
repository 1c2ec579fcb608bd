use Rattle.std.proofs.Common.{◌≡◌, ◌-◌, ◌++◌}
use Rattle.circular_buffer.specs.Buffer.{buffer, keep_last}
use Rattle.kc_debug.proofs.Idling.{idle_states}
use Rattle.kc_debug.proofs.activities.note_idle.Given as goal

-- the idle states from the first one on, up to this one
abbrev pub invariant-loop-at : goal.invariant-loop-at
invariant-loop-at g l = l.begun ≡ buffer (keep_last l.initial.begun.capacity (l.initial.begun.items ++ idle_states l.first l.pc (l.at - l.first))) l.initial.begun.capacity
