use Rattle.std.proofs.Common.{◌≡◌, ◌++◌}
use Rattle.kc_trace.specs.Tables.{level_in}
use Rattle.kc_events.proofs.InputLemmas.{edges_below}
use Rattle.kc_events.proofs.inputs.put_edges.Given as goal

abbrev pub invariant-loop-pin : goal.invariant-loop-pin
invariant-loop-pin l = l.whats.items ≡ l.initial.whats.items ++ edges_below l.stimuli (level_in l.levels) l.at l.pin
