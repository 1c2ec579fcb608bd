use Rattle.std.proofs.Common.{◌≡◌, ◌-◌, ◌*◌, length, ap, sym, ◌∙◌, arith}
use Rattle.kc_branch.specs.Forms as spec
use Rattle.kc_branch.specs.Layouts.{items, changed, stands, raised_from, forms_of, pieces_of}
use Rattle.kc_branch.proofs.Forks.{kept}
use Rattle.kc_branch.proofs.Iterated.{one_fewer, stays, none_left}
use Rattle.kc_branch.proofs.Least.{least_along}
use Rattle.kc_branch.proofs.Listing.{begun_length, begun_pieces, forms_begun, forms_none, forms_reported, pass_is, same_pieces}
use Rattle.kc_branch.proofs.Reaching.{along}
use Rattle.kc_branch.proofs.Resting.{begun_rests, pass_rests}
use Rattle.kc_branch.proofs.Spanning.{rests_in_tree}
use Rattle.kc_branch.proofs.relaxation.sizes.Goals as goal
use Rattle.kc_branch.proofs.relaxation.sizes.Goals.{else-loop-pass-test, then-loop-pass-test+in_ok-raises+then-is_keep}

pub returns-then-is_empty-clause-forms : goal.returns-then-is_empty-clause-forms
returns-then-is_empty-clause-forms c = forms_none c.args.pieces.now c.new-forms.result.items (sym c.is_empty.ensures ∙ c.if-is_empty.true) c.new-forms.ensures.items

pub returns-then-is_empty-clause-reach : goal.returns-then-is_empty-clause-reach
returns-then-is_empty-clause-reach c = along c.args.pieces.now c.new-forms.result.items (returns-then-is_empty-clause-forms c)

pub returns-then-is_empty-clause-least : goal.returns-then-is_empty-clause-least
returns-then-is_empty-clause-least c = least_along c.args.pieces.now c.new-forms.result.items (returns-then-is_empty-clause-forms c)

pub loop-pass-init : goal.loop-pass-init
loop-pass-init c =
    let pieces = c.args.pieces.now in
    let layout = c.in_ok-layout.layout in
    let begins = c.in_ok-layout.ensures in
    let count : length (items layout) ≡ length pieces = ap length begins.items ∙ begun_length pieces in
    record {
      listed = ap pieces_of begins.items ∙ begun_pieces pieces;
      count = count;
      laid = begins.laid;
      spanned = begins.spanned;
      rests = rests_in_tree (length pieces) (changed layout) (stands (items layout) 0) layout 0 (begun_rests pieces (length pieces) (items layout) (changed layout) count begins.changed);
      left = forms_begun pieces (items layout) c.branches-pass-end.result begins.items c.branches-pass-end.ensures.value;
    }

pub loop-pass-preserved : goal.loop-pass-preserved
loop-pass-preserved c =
    let pieces = c.args.pieces.now in
    let layout = c.loop-pass.layout in
    let next = c.raise.new.layout in
    let inv = c.loop-pass.invariant in
    let is : items next ≡ raised_from (stands (items layout) 0) (items layout) 0 = c.raise.ensures.items ∙ c.in_ok-raises.ensures in
    record {
      listed = ap pieces_of is ∙ (same_pieces (stands (items layout) 0) (items layout) 0 ∙ inv.listed);
      count = c.raise.ensures.few ∙ inv.count;
      laid = c.raise.ensures.laid;
      spanned = c.raise.ensures.spanned;
      rests = rests_in_tree (length pieces) (changed next) (stands (items next) 0) next 0 (pass_rests (items layout) (items next) (changed next) (length pieces) (sym inv.count) is c.raise.ensures.changes);
      left = one_fewer (spec.pass pieces) (forms_of (items layout)) (forms_of (items next)) (spec.forms pieces) c.loop-pass._pass (2 * c.branches-pass-end.result)
          (pass_is pieces (items layout) (items next) inv.listed is) (omega arith) inv.left;
    }

pub returns-clause-forms : goal.returns-clause-forms
returns-clause-forms c =
    let pieces = c.args.pieces.now in
    let layout = c.loop-pass.layout in
    let inv = c.loop-pass.invariant in
    let relaxation = 2 * c.branches-pass-end.result in
    forms_reported c.new-forms.result.items (spec.forms pieces) c.push_forms.new.forms.items (items layout) c.in_ok-push_forms.ensures c.new-forms.ensures.items (elim c.loop-pass-test.branch [
      | else-loop-pass-test w ↦ none_left (spec.pass pieces) (forms_of (items layout)) (spec.forms pieces) c.loop-pass._pass relaxation w.loop-pass-test.false inv.left
      | then-loop-pass-test+in_ok-raises+then-is_keep w ↦
          let same : items layout ≡ raised_from (stands (items layout) 0) (items layout) 0 =
          sym (kept layout w.in_ok-raises.raises (sym w.is_keep.ensures ∙ w.if-is_keep.true)) ∙ w.in_ok-raises.ensures in
          stays (spec.pass pieces) (forms_of (items layout)) (spec.forms pieces) (relaxation - c.loop-pass._pass) (sym (pass_is pieces (items layout) (items layout) inv.listed same)) inv.left
    ])

pub returns-clause-reach : goal.returns-clause-reach
returns-clause-reach c = along c.args.pieces.now c.push_forms.new.forms.items (returns-clause-forms c)

pub returns-clause-least : goal.returns-clause-least
returns-clause-least c = least_along c.args.pieces.now c.push_forms.new.forms.items (returns-clause-forms c)
