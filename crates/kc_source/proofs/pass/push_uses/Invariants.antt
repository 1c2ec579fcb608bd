use Rattle.std.proofs.Common.{◌≡◌, ◌++◌, drop}
use Rattle.std.specs.Prelude.{map}
use Rattle.kc_source.specs.Faults.{use_of}
use Rattle.kc_source.proofs.pass.push_uses.Given as goal

abbrev pub invariant-loop-name : goal.invariant-loop-name
invariant-loop-name l = l.uses.items ++ map (use_of l.line l.kind) (drop l.name-index l.names) ≡ l.initial.uses.items ++ map (use_of l.line l.kind) l.names
