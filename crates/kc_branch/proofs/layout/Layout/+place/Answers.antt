use Rattle.std.proofs.Common.{ℕ, ◌-◌, ◌∙◌, ap, sym, arith}
use Rattle.std.specs.Prelude.{slice_index}
use Rattle.kc_branch.specs.declared.layout.Layout.{Layout}
use Rattle.kc_branch.specs.Layouts.{items, known, stands}
use Rattle.kc_branch.proofs.Standing.{count_of, place_from, stands-before}
use Rattle.kc_branch.proofs.layout.Layout.+place.Goals as goal

pub returns-then-index-known-clause-value : goal.returns-then-index-known-clause-value
returns-then-index-known-clause-value t c =
    let left = c.in-Fork.left.value in
    let right = c.in-Fork.right.value in
    let laid = rw c.in-Fork.is at c.requires.laid in
    let count = count_of left c.deref.result.now c.known-known.result c.known-known.ensures.value c.deref.ensures laid.1 in
    let P : Layout → ℕ = λ l. slice_index (stands (items l) c.args.here) c.args.index in
    rw c.in-Fork.is (c.place.ensures.value ∙ (ap P c.deref-then-index-known.ensures ∙ sym (stands-before (items left) (items right) c.args.here c.args.index (omega arith))))

pub returns-else-index-known-clause-value : goal.returns-else-index-known-clause-value
returns-else-index-known-clause-value t c =
    let left = c.in-Fork.left.value in
    let right = c.in-Fork.right.value in
    let laid = rw c.in-Fork.is at c.requires.laid in
    let count = count_of left c.deref.result.now c.known-known.result c.known-known.ensures.value c.deref.ensures laid.1 in
    let P : Layout → ℕ = λ l. slice_index (stands (items l) c.end_from.result) (c.args.index - c.known-known.result.count) in
    rw c.in-Fork.is
    (c.place-else-index-known.ensures.value ∙ (ap P c.deref-else-index-known.ensures
    ∙ place_from left right c.known-known.result c.args.here c.end_from.result c.args.index (c.args.index - c.known-known.result.count)
    (c.known-known.ensures.value ∙ ap known c.deref.ensures) laid.1 c.end_from.ensures.value (omega arith)))
