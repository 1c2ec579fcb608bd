use Rattle.std.proofs.Common.{◌≡◌, ◌++◌, length}
use Rattle.kc_link.specs.Map as spec
use Rattle.kc_link.proofs.modules.put_publics.Given as goal

abbrev pub invariant-loop-left : goal.invariant-loop-left
invariant-loop-left l = l.text.items ++ spec.public_lines l.placed l.index l.name l.left ≡ l.initial.text.items ++ spec.public_lines l.placed l.index l.name l.fn.publics

abbrev pub decreases-loop-left : goal.decreases-loop-left
decreases-loop-left l = length l.left
