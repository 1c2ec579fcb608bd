use Rattle.std.proofs.Common.{◌≡◌, ℕ, ◌<◌, true, get_or}
use Rattle.kc_obj_module.specs.Object.{Object}
use Rattle.kc_obj_module.specs.Rules.{is_module}
use Rattle.kc_link.proofs.linking.keep_rules.Given as goal

abbrev pub invariant-loop-module : goal.invariant-loop-module
invariant-loop-module l = (k : ℕ) (d : Object) → k < l.module-index → is_module (get_or l.modules k d) ≡ true
