use Rattle.std.proofs.Common.{ap}
use Rattle.kc_branch.specs.Layouts.{items}
use Rattle.kc_branch.proofs.Listing.{pushed}
use Rattle.kc_branch.proofs.layout.Layout.+push_forms.Goals as goal

pub returns-in_ok-push_forms-in-Fork-2 : goal.returns-in_ok-push_forms-in-Fork-2
returns-in_ok-push_forms-in-Fork-2 t c =
    let left = c.in-Fork.left.value in
    let right = c.in-Fork.right.value in
    rw c.in-Fork.is
    (pushed c.args.forms.now.items c.push_forms.new.forms.items c.push_forms-in-Fork.new.forms.items (items left) (items right) (items c.deref.result.now) (items c.deref-in-Fork.result.now)
    c.in_ok-push_forms-in-Fork.ensures (ap items c.deref.ensures) c.in_ok-push_forms-in-Fork-2.ensures (ap items c.deref-in-Fork.ensures))
