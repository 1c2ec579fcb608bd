use Rattle.std.proofs.Common.{◌/◌, length}
use Rattle.kc_branch.specs.Layouts.{items, changed}
use Rattle.kc_branch.proofs.Listing.{begun_halves, changed_halves}
use Rattle.kc_branch.proofs.layout.+start.Goals as goal

pub returns-clause-items : goal.returns-clause-items
returns-clause-items t c =
    begun_halves (items c.in_ok-layout.layout) (items c.in_ok-left.left) (items c.in_ok-right.right) (length c.args.pieces.now / 2) c.args.pieces.now
    c.in_ok-layout.ensures.items c.in_ok-left.ensures.items c.in_ok-right.ensures.items

pub returns-clause-changed : goal.returns-clause-changed
returns-clause-changed t c =
    changed_halves (changed c.in_ok-layout.layout) (changed c.in_ok-left.left) (changed c.in_ok-right.right) (length c.args.pieces.now / 2) c.args.pieces.now
    c.in_ok-layout.ensures.changed c.in_ok-left.ensures.changed c.in_ok-right.ensures.changed
