use Rattle.std.proofs.Common.{◌≡◌, take}
use Rattle.kc_lib.proofs.copying.externals_of.Given as goal

abbrev pub invariant-loop-taken : goal.invariant-loop-taken
invariant-loop-taken l = l.copies.items ≡ take l.taken-index l.externals
