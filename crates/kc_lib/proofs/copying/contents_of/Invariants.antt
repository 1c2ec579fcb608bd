use Rattle.std.proofs.Common.{◌≡◌, take}
use Rattle.kc_lib.proofs.copying.contents_of.Given as goal

abbrev pub invariant-loop-run : goal.invariant-loop-run
invariant-loop-run l = l.copies.items ≡ take l.run-index l.contents
