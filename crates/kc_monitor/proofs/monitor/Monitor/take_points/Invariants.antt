use Rattle.std.proofs.Common.{◌≡◌, ◌≤◌, ◌++◌, ℕ, List, Bool, drop}
use Rattle.kc_trace.specs.Tables.{level_in}
use Rattle.kc_monitor_forms.specs.declared.obligation.Point.{Point}
use Rattle.kc_monitor_forms.specs.Apart.{Times}
use Rattle.kc_monitor_forms.specs.Machines.{IsOrderedFrom}
use Rattle.kc_monitor.specs.Machines.{machine_total, IsReady, IsLevel}
use Rattle.kc_monitor.specs.Watching.{points_at}
use Rattle.kc_monitor.proofs.monitor.Monitor.take_points.Given as goal

abbrev pub invariant-loop-seen : goal.invariant-loop-seen
invariant-loop-seen l = record {
  same : l.self ≡ record l.fn.self { machine = l.self.machine; tally = l.self.tally };
  ready : IsReady l.fn.self.life l.fn.self.tally l.fn.self.machine l.at → IsReady l.fn.self.life l.self.tally l.self.machine l.at;
  total : IsReady l.fn.self.life l.fn.self.tally l.fn.self.machine l.at →
      (first end : ℕ) (points : List Point) (one other : Times) (next : ℕ) → l.at ≤ end → IsOrderedFrom l.at points →
      machine_total l.fn.self.life l.fn.self.tally l.fn.self.machine first end (points_at l.form l.at (level_in l.levels) l.seens ++ points) one other next
      ≡ machine_total l.fn.self.life l.self.tally l.self.machine first end (points_at l.form l.at (level_in l.levels) (drop l.seen-index l.seens) ++ points) one other next;
  level : (one other : Bool) → IsLevel l.fn.self.machine one other → IsLevel l.self.machine one other;
}
