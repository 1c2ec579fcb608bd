use Rattle.std.proofs.Common.{◌≡◌, take}
use Rattle.kc_lib.proofs.copying.publics_of.Given as goal

abbrev pub invariant-loop-given : goal.invariant-loop-given
invariant-loop-given l = l.copies.items ≡ take l.given-index l.publics
