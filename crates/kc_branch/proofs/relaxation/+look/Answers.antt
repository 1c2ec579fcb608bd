use Rattle.std.proofs.Common.{◌≡◌, ◌+◌, ◌++◌, length, refl, ap, sym, subst, ◌∙◌, arith}
use Rattle.kc_branch.specs.declared.layout.Layout.{Layout}
use Rattle.kc_branch.specs.declared.relaxation.Raises.TheVariants.{Keep}
use Rattle.kc_branch.specs.Layouts.{items, items_by, changed, stands, raised_from, left_side, right_side}
use Rattle.kc_branch.proofs.Forks.{both_sides, kept}
use Rattle.kc_branch.proofs.Spanning.{left_alone, raised-append, rests_in_list}
use Rattle.kc_branch.proofs.relaxation.+look.Goals as goal

pub returns-then-not-is_changed : goal.returns-then-not-is_changed
returns-then-not-is_changed t c =
    let whole = c.args.whole.now in
    let n = length (items whole) in
    let rests = rests_in_list n (changed whole) (stands (items whole) 0) c.args.part.now c.args.at c.requires.at_rest in
    let spanned = rw c.in-Fork.is at c.requires.spanned in
    kept c.args.part.now Keep refl ∙
    rw c.in-Fork.is (sym (left_alone n c.in-Fork.known.from c.in-Fork.known.to (changed whole) (stands (items whole) 0) (items c.in-Fork.left.value ++ items c.in-Fork.right.value) c.args.at spanned.0
    (rw c.in-Fork.is at rests) (sym c.is_changed.ensures ∙ c.if-not-is_changed.true)))

pub returns-in_ok-raises-in-Fork : goal.returns-in_ok-raises-in-Fork
returns-in_ok-raises-in-Fork t c =
    let left = c.in-Fork.left.value in
    let right = c.in-Fork.right.value in
    let r = c.in_ok-raises-in-Fork.raises in
    let at = stands (items c.args.whole.now) 0 in
    let laid = rw c.in-Fork.is at c.requires.laid in
    let count = c.known.ensures.count ∙ ap (λ l. length (items l)) c.deref-in-Fork-2.ensures in
    let next = c.args.at + c.known.result.count in
    let P : Layout → Type 0 = λ l. items_by l c.in_ok-first-in-Fork.first ≡ raised_from at (items l) c.args.at in
    let Q : Layout → Type 0 = λ l. items_by l c.in_ok-second-in-Fork.second ≡ raised_from at (items l) next in
    let first : items_by left (left_side r) ≡ raised_from at (items left) c.args.at = ap (items_by left) c.in_ok-raises-in-Fork.ensures.left ∙ subst P c.deref.ensures c.in_ok-first-in-Fork.ensures in
    let second : items_by right (right_side r) ≡ raised_from at (items right) next = ap (items_by right) c.in_ok-raises-in-Fork.ensures.right ∙ subst Q c.deref-in-Fork.ensures c.in_ok-second-in-Fork.ensures in
    rw c.in-Fork.is
    (both_sides (items_by left (left_side r)) (items_by right (right_side r)) (raised_from at (items left) c.args.at) (raised_from at (items right) next) first second
    ∙ sym (raised-append at (items left) (items right) c.args.at next (omega (arith, count))))
