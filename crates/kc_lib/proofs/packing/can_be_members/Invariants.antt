use Rattle.std.proofs.Common.{ℕ, ◌<◌, get_or}
use Rattle.kc_obj_module.specs.Object.{Object}
use Rattle.kc_lib.specs.Format.{IsMember}
use Rattle.kc_lib.proofs.packing.can_be_members.Given as goal

abbrev pub invariant-loop-module : goal.invariant-loop-module
invariant-loop-module l = (k : ℕ) (d : Object) → k < l.module-index → IsMember (get_or l.modules k d)
