use Rattle.std.proofs.Common.{Bool, ◌∙◌, ap, sym}
use Rattle.kc_branch.specs.declared.layout.Layout.{Layout}
use Rattle.kc_branch.specs.Layouts.{known, changed, any_in}
use Rattle.kc_branch.proofs.Forks.{not_changed, past_end, to_start, changed_left, changed_right}
use Rattle.kc_branch.proofs.layout.Layout.+is_changed.Goals as goal
use Rattle.kc_branch.proofs.layout.Layout.+is_changed.Goals.{then-not-known-via-then-not-known, then-not-known-via-else-not-known+then-known-from, then-not-known-via-else-not-known+else-known-from+then-to-eq0}

pub returns-then-not-known : goal.returns-then-not-known
returns-then-not-known t c =
    let left = c.in-Fork.left.value in
    let right = c.in-Fork.right.value in
    let laid = rw c.in-Fork.is at c.requires.laid in
    rw c.in-Fork.is (elim c.then-not-known.branch [
      | then-not-known-via-then-not-known w ↦ sym (not_changed left right c.in-Fork.known c.args.from c.args.to laid.0 w.if-not-known.true)
      | then-not-known-via-else-not-known+then-known-from w ↦ sym (past_end left right c.in-Fork.known c.args.from c.args.to laid.0 w.if-known-from.true)
      | then-not-known-via-else-not-known+else-known-from+then-to-eq0 w ↦ sym (to_start left right c.args.from c.args.to w.if-to-eq0.true)
    ])

pub returns-then-is_changed : goal.returns-then-is_changed
returns-then-is_changed t c =
    let left = c.in-Fork.left.value in
    let right = c.in-Fork.right.value in
    let P : Layout → Bool = λ l. any_in (changed l) c.args.from c.args.to in
    rw c.in-Fork.is (c.if-is_changed.true ∙ sym (changed_left left right c.args.from c.args.to (sym (ap P c.deref-in-Fork.ensures) ∙ (sym c.is_changed.ensures ∙ c.if-is_changed.true))))

pub returns-else-is_changed : goal.returns-else-is_changed
returns-else-is_changed t c =
    let left = c.in-Fork.left.value in
    let right = c.in-Fork.right.value in
    let laid = rw c.in-Fork.is at c.requires.laid in
    let P : Layout → Bool = λ l. any_in (changed l) c.args.from c.args.to in
    let Q : Layout → Bool = λ l. any_in (changed l) c.saturating_sub.result c.saturating_sub-else-is_changed.result in
    rw c.in-Fork.is (c.is_changed-else-is_changed.ensures ∙ (ap Q c.deref-else-is_changed.ensures
    ∙ changed_right left right c.known-count.result c.args.from c.args.to c.saturating_sub.result c.saturating_sub-else-is_changed.result
    (c.known-count.ensures.value ∙ ap known c.deref.ensures) laid.1 c.saturating_sub.ensures c.saturating_sub-else-is_changed.ensures
    (sym (ap P c.deref-in-Fork.ensures) ∙ (sym c.is_changed.ensures ∙ c.if-is_changed.false))))
