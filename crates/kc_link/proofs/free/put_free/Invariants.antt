use Rattle.std.proofs.Common.{◌≡◌, ◌+◌, ◌-◌, ◌≤◌, ◌++◌, ◌&&◌, not, false, get_or}
use Rattle.kc_link.specs.Free as spec
use Rattle.kc_link.specs.Map as map
use Rattle.kc_link.proofs.free.put_free.Given as goal

abbrev pub invariant-loop-at : goal.invariant-loop-at
invariant-loop-at l = record {
  goes_on : l.text.items ++ map.free_lines l.word (spec.free_runs (λ a. not (spec.covers l.stack.first l.stack.size a) && not (get_or l.taken a false)) (l.end - l.at) l.at l.length)
      ≡ l.initial.text.items ++ map.free_lines l.word (spec.free_runs (λ a. not (spec.covers l.stack.first l.stack.size a) && not (get_or l.taken a false)) (l.fn.range.1 + 1 - l.fn.range.0) l.fn.range.0 0);
  ahead : l.at ≤ l.end;
  begun : l.length ≤ l.at;
}

abbrev pub decreases-loop-at : goal.decreases-loop-at
decreases-loop-at l = l.end - l.at
