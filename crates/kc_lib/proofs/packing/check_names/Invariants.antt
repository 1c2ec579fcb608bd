use Rattle.std.proofs.Common.{◌≡◌, take, drop}
use Rattle.kc_lib.specs.Givers.{Knows}
use Rattle.kc_lib.specs.Names.{doubled, doubled_behind}
use Rattle.kc_lib.proofs.packing.check_names.Given as goal

abbrev pub invariant-loop-number : goal.invariant-loop-number
invariant-loop-number l = record {
  knows : Knows l.givers.numbers.entries (take l.number l.modules);
  same : doubled_behind (take l.number l.modules) (drop l.number l.modules) ≡ doubled l.modules;
}
