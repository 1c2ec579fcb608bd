use Rattle.std.proofs.Common.{◌≡◌, ◌++◌, List, map, length}
use Rattle.kc_obj_module.specs.Object.{Object}
use Rattle.kc_link_place.specs.Names.{Knows}
use Rattle.kc_link_place.specs.Placing.{name_number}
use Rattle.kc_link_place.proofs.places.externals_of.Given as goal

abbrev pub invariant-loop-left : goal.invariant-loop-left
invariant-loop-left l = (modules : List Object) → Knows l.names.defining_modules.entries modules →
    l.numbers.items ++ map (λ t. name_number modules (record { pieces = l.pieces; after_stack = l.after_stack }) t.name) l.left
    ≡ map (λ t. name_number modules (record { pieces = l.pieces; after_stack = l.after_stack }) t.name) l.fn.externals

abbrev pub decreases-loop-left : goal.decreases-loop-left
decreases-loop-left l = length l.left
