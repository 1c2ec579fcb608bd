use Rattle.std.proofs.Common.{◌≡◌, length, take, drop}
use Rattle.kc_trace.specs.Tables.{level_in}
use Rattle.kc_monitor.specs.Watching.{AllThree, IsStep}
use Rattle.kc_monitor.proofs.watch.state_all.Given as goal

abbrev pub invariant-loop-i : goal.invariant-loop-i
invariant-loop-i l = record {
  many : length l.monitors ≡ length l.fn.monitors;
  past : length l.rules ≡ length l.fn.monitors → AllThree (IsStep l.at (level_in l.levels) l.seens) (take l.i l.rules) (take l.i l.fn.monitors) (take l.i l.monitors);
  rest : drop l.i l.monitors ≡ drop l.i l.fn.monitors;
}
