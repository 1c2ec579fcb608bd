use Rattle.std.proofs.Common.{◌≡◌, ◌++◌, map, take}
use Rattle.circular_buffer.specs.Buffer.{buffer, keep_last}
use Rattle.kc_debug.specs.Debugging.{past_in}
use Rattle.kc_debug.proofs.past.keep_finished.Given as goal

-- the activities up to this one are kept
abbrev pub invariant-loop-index : goal.invariant-loop-index
invariant-loop-index l = l.past ≡ buffer (keep_last 32 (l.initial.past.items ++ map (past_in l.life) (take l.index l.begun.items))) 32
