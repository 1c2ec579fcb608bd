use Rattle.std.proofs.Common.{drop}
use Rattle.kc_source.specs.Passing.{IsReading}
use Rattle.kc_source.proofs.pass.read.Given as goal

abbrev pub invariant-loop-line : goal.invariant-loop-line
invariant-loop-line l = IsReading l.pass (drop l.line-index l.lines) l.lines
