use Rattle.std.proofs.Common.{◌≡◌, ℕ, ◌+◌, List, ◌++◌, length, refl, ap, sym, subst, ◌∙◌, arith}
use Rattle.std.proofs.lemmas.List.{length-append}
use Rattle.kc_branch.specs.declared.piece.Piece.{Piece}
use Rattle.kc_branch.specs.declared.piece.Form.{Form}
use Rattle.kc_branch.specs.declared.layout.Layout.{Layout}
use Rattle.kc_branch.specs.Layouts.{items, items_by, changed, known, left_side, right_side, end_from, end_place, IsSpanned, Changes}
use Rattle.kc_branch.proofs.Forks.{both_sides, fork_covers, fork_known, kept, quiet_keeps, quiet_moves}
use Rattle.kc_branch.proofs.Standing.{count_of, ends, of_laid, changed_length}
use Rattle.kc_branch.proofs.Changing.{only_moves_changes, changes-append}
use Rattle.kc_branch.proofs.relaxation.+raise.Goals as goal

pub returns-then-is_quiet-clause-items : goal.returns-then-is_quiet-clause-items
returns-then-is_quiet-clause-items t c =
    sym (kept c.args.layout.now c.args.raises.now (quiet_keeps c.in-Fork.known c.args.raises.now c.args.old c.args.new (sym c.is_quiet.ensures ∙ c.if-is_quiet.true)) ∙ ap items c.in-Fork.is)

pub returns-then-is_quiet-clause-changes : goal.returns-then-is_quiet-clause-changes
returns-then-is_quiet-clause-changes t c =
    let left = c.in-Fork.left.value in
    let right = c.in-Fork.right.value in
    let laid = rw c.in-Fork.is at c.requires.laid in
    let long : length (changed left ++ changed right) ≡ length (items left ++ items right) =
    omega (arith, changed_length left, changed_length right, length-append (items left) (items right), length-append (changed left) (changed right)) in
    rw c.in-Fork.is (only_moves_changes c.in-Fork.known (items left ++ items right) (changed left ++ changed right) (changed left ++ changed right) c.args.old c.args.new laid.0 long
    (quiet_moves c.in-Fork.known c.args.raises.now c.args.old c.args.new (sym c.is_quiet.ensures ∙ c.if-is_quiet.true)))

pub returns-else-is_quiet-clause-items : goal.returns-else-is_quiet-clause-items
returns-else-is_quiet-clause-items t c =
    let left = c.in-Fork.left.value in
    let right = c.in-Fork.right.value in
    let P : Layout → List (Piece × Form) = λ l. items_by l c.sides.result.0.now in
    let Q : Layout → List (Piece × Form) = λ l. items_by l c.sides.result.1.now in
    rw c.in-Fork.is (both_sides (items c.raise.new.layout) (items c.raise-in-Fork.new.layout) (items_by left (left_side c.args.raises.now)) (items_by right (right_side c.args.raises.now))
    (c.raise.ensures.items ∙ (ap P c.deref_mut.ensures.value ∙ ap (items_by left) c.sides.ensures.left))
    (c.raise-in-Fork.ensures.items ∙ (ap Q c.deref_mut-in-Fork.ensures.value ∙ ap (items_by right) c.sides.ensures.right)))

pub returns-else-is_quiet-clause-laid : goal.returns-else-is_quiet-clause-laid
returns-else-is_quiet-clause-laid t c = (
  fork_known c.raise.new.layout c.raise-in-Fork.new.layout c.joined.result c.known-after.result c.known.result c.joined.ensures.value
      (c.known-after.ensures.value ∙ ap known c.deref-in-Fork.ensures) (c.known.ensures.value ∙ ap known c.deref-in-Fork-2.ensures) c.joined.ensures.short c.raise.ensures.laid c.raise-in-Fork.ensures.laid,
  c.raise.ensures.laid,
  c.raise-in-Fork.ensures.laid,
)

pub returns-else-is_quiet-clause-spanned : goal.returns-else-is_quiet-clause-spanned
returns-else-is_quiet-clause-spanned t c =
    let left = c.in-Fork.left.value in
    let laid = rw c.in-Fork.is at c.requires.laid in
    let before = count_of left c.deref.result.now c.known-before.result c.known-before.ensures.value c.deref.ensures laid.1 in
    let same : length (items c.raise.new.layout) ≡ length (items left) = c.raise.ensures.few ∙ ap (λ l. length (items l)) c.deref_mut.ensures.value in
    let P : ℕ → Type 0 = λ i. IsSpanned c.args.count c.raise-in-Fork.new.layout i in
    let later = subst P (let e : c.args.at + c.known-before.result.count ≡ c.args.at + length (items c.raise.new.layout) = omega arith in e) c.raise-in-Fork.ensures.spanned in (
      fork_covers c.args.count c.raise.new.layout c.raise-in-Fork.new.layout c.args.at (c.args.at + length (items c.raise.new.layout)) c.joined.result c.known-after.result c.known.result c.joined.ensures.value
          (c.known-after.ensures.value ∙ ap known c.deref-in-Fork.ensures) (c.known.ensures.value ∙ ap known c.deref-in-Fork-2.ensures) refl c.raise.ensures.spanned later,
      c.raise.ensures.spanned,
      later,
    )

pub returns-else-is_quiet-clause-changes : goal.returns-else-is_quiet-clause-changes
returns-else-is_quiet-clause-changes t c =
    let left = c.in-Fork.left.value in
    let right = c.in-Fork.right.value in
    let first = c.raise.new.layout in
    let second = c.raise-in-Fork.new.layout in
    let laid = rw c.in-Fork.is at c.requires.laid in
    let old_middle : c.end_from-old_middle.result ≡ end_place (items left) c.args.old =
    c.end_from-old_middle.ensures.value ∙ (ap (λ s. end_from s c.args.old) (c.known-before.ensures.value ∙ ap known c.deref.ensures) ∙ ends (known left) (items left) (changed left) c.args.old (of_laid left laid.1)) in
    let new_middle : c.end_from-new_middle.result ≡ end_place (items first) c.args.new =
    c.end_from-new_middle.ensures.value ∙ (ap (λ s. end_from s c.args.new) (c.known-after.ensures.value ∙ ap known c.deref-in-Fork.ensures) ∙ ends (known first) (items first) (changed first) c.args.new (of_laid first c.raise.ensures.laid)) in
    let P : Layout → Type 0 = λ l. Changes (items l) (items first) (changed first) c.args.old c.args.new in
    let Q : Layout → Type 0 = λ l. Changes (items l) (items second) (changed second) c.end_from-old_middle.result c.end_from-new_middle.result in
    let R : ℕ → Type 0 = λ a. Changes (items right) (items second) (changed second) a c.end_from-new_middle.result in
    let S : ℕ → Type 0 = λ b. Changes (items right) (items second) (changed second) (end_place (items left) c.args.old) b in
    rw c.in-Fork.is (changes-append (items left) (items first) (changed first) (items right) (items second) (changed second) c.args.old c.args.new
    (subst P c.deref_mut.ensures.value c.raise.ensures.changes)
    (subst S new_middle (subst R old_middle (subst Q c.deref_mut-in-Fork.ensures.value c.raise-in-Fork.ensures.changes))))
