use Rattle.std.proofs.Common.{◌≡◌, ◌∷◌, ◌++◌, ◌+◌, [], length, ap, sym, ◌∙◌, subst, arith}
use Rattle.std.specs.List.{filter}
use Rattle.std.proofs.lemmas.Bool.{eqb-true}
use Rattle.std.proofs.lemmas.List.{nil_from_length, length-drop}
use Rattle.kc_base.specs.TextLines.{text_lines}
use Rattle.kc_asm_list.specs.Order.{Rises}
use Rattle.kc_asm_list.specs.Rows.{is_on, lines_text, listing}
use Rattle.kc_asm_list.proofs.Steps.{line_done, all_done, no_lines}
use Rattle.kc_asm_list.proofs.rows_listing.rows_of.Goals as goal

pub loop-rest-preserved : goal.loop-rest-preserved
loop-rest-preserved c =
    let words = c.prefix.result.now in
    let ls = text_lines c.after-rest.result.now in
    let texts : text_lines c.loop-rest.rest.now ≡ words ∷ ls = c.first_line-len.ensures.read ∙ (λ i. sym c.prefix.ensures i ∷ text_lines (sym c.after-rest.ensures i)) in
    let own : c.split_at.result.0.now ≡ filter (is_on c.loop-rest.line) c.loop-rest.later.now = c.split_at.ensures.front ∙ c.count_on-count.ensures.own in
    let so_far = ap (λ t. c.loop-rest.text.items ++ lines_text c.args.object.now c.loop-rest.later.now c.loop-rest.line t) (sym texts) ∙ c.loop-rest.invariant.goes_on in
    record {
      few = omega (arith, c.first_line-len.ensures.goes, ap length c.after-rest.ensures, length-drop c.first_line-len.result.1 c.loop-rest.rest.now);
      rises = subst (λ t. Rises (c.loop-rest.line + 1) t) (sym c.split_at.ensures.back) c.count_on-count.ensures.later;
      goes_on = rw c.in_ok-put_line.ensures (line_done c.args.object.now c.loop-rest.later.now c.split_at.result.1.now c.split_at.result.0.now c.loop-rest.line words ls c.loop-rest.text.items (listing c.args.object.now c.args.source.now c.args.spots.now) own
          (λ n lt. rw c.split_at.ensures.back (c.count_on-count.ensures.others n lt)) so_far);
    }

pub returns : goal.returns
returns c =
    let nothing : c.loop-rest.rest.now ≡ [] = nil_from_length _ (eqb-true _ _ (sym c.loop-rest-test.ensures)) in
    all_done c.args.object.now c.loop-rest.later.now c.loop-rest.line c.loop-rest.text.items (listing c.args.object.now c.args.source.now c.args.spots.now)
    (ap (λ t. c.loop-rest.text.items ++ lines_text c.args.object.now c.loop-rest.later.now c.loop-rest.line t) (sym no_lines ∙ ap text_lines (sym nothing)) ∙ c.loop-rest.invariant.goes_on)
