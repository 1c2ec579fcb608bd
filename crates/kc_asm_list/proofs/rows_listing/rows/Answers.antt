use Rattle.std.proofs.Common.{◌≡◌, ◌≤◌, ℕ, IfOk, ◌∙◌, subst, arith}
use Rattle.std.specs.List.{filter}
use Rattle.kc_base.specs.TextLines.{text_lines}
use Rattle.kc_asm_list.specs.Rows.{is_on, listing}
use Rattle.kc_asm_list.proofs.Steps.{agree}
use Rattle.kc_asm_list.proofs.rows_listing.rows.Goals as goal

pub returns : goal.returns
returns c =
    let same : (n : ℕ) → 1 ≤ n → filter (is_on n) c.split_at.result.1.now ≡ filter (is_on n) c.args.spots.items =
    λ n le. rw (c.split_at.ensures.back, c.deref-2.ensures.value) ((rw c.deref.ensures.value at (c.count_on-before.ensures.others n (omega (arith, le)))) ∙ c.in_ok-sorted.ensures.same n) in
    let whole : listing c.args.object.now c.args.source.now c.split_at.result.1.now ≡ listing c.args.object.now c.args.source.now c.args.spots.items =
    agree c.args.object.now c.split_at.result.1.now c.args.spots.items 1 same (text_lines c.args.source.now) in
    subst (λ t. IfOk c.rows_of.result (λ text. text.items ≡ t)) whole c.rows_of.ensures
