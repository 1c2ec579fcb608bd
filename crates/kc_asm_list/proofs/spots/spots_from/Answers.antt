use Rattle.std.proofs.Common.{◌≡◌, List, ◌++◌, true, false, eqb, length, take, drop, ◌-◌, sym, ap, subst, ◌∙◌}
use Rattle.std.specs.Prelude.{All}
use Rattle.kc_source_statement.specs.Operands.{is_nil}
use Rattle.kc_asm_layout.specs.declared.size_record.SizeRecord.{SizeRecord}
use Rattle.kc_asm_layout.specs.Bounds.{IsBounded}
use Rattle.kc_asm_list.specs.Spots.{spots_from}
use Rattle.kc_asm_list.proofs.Walk.{all_behind, no_tokens, said, blank}
use Rattle.kc_asm_list.proofs.spots.spots_from.Goals.{then-not-is_empty+in_ok-put_first, else-not-is_empty}
use Rattle.kc_asm_list.proofs.spots.spots_from.Goals as goal

pub loop-left-preserved : goal.loop-left-preserved
loop-left-preserved c =
    let l = c.loop-left in
    let line = c.line-item.result in
    let whole = spots_from c.args.text.now c.args.depths.now c.args.size_records.now c.args.locations.now in
    let tokens : is_nil line.tokens ≡ c.is_empty.result = no_tokens line.tokens ∙ sym (c.is_empty.ensures ∙ ap (λ ts. eqb (length ts) 0) c.as_slice.ensures) in
    let left = take (length l.left.now - 1) (drop 1 l.left.now) in
    elim c.if-not-is_empty.branch [
      | then-not-is_empty+in_ok-put_first w ↦
          let full : is_nil line.tokens ≡ false = tokens ∙ w.if-not-is_empty.true in
          let here = said l.left.now line l.deep.now l.ahead.now l.standing.now l.spots.items whole c.in-len1-up.len_at_least c.line-item.is full l.invariant.goes_on in
          let spots : c.if-not-is_empty.spots.items ≡ l.spots.items ++ _ = ap (λ v. v.items) w.spots-is ∙ w.in_ok-put_first.ensures in
          let ahead : c.if-not-is_empty.ahead.now ≡ drop 1 l.ahead.now = ap (λ b. b.now) w.ahead-is ∙ w.behind-ahead.ensures in
          let standing : c.if-not-is_empty.standing.now ≡ drop 1 l.standing.now = ap (λ b. b.now) w.standing-is ∙ w.behind-standing.ensures in
          record {
            goes_on = (λ i. spots i ++ spots_from left (c.behind-deep.ensures i) (ahead i) (standing i)) ∙ here;
            bounded = all_behind l.ahead.now c.if-not-is_empty.ahead.now ahead l.invariant.bounded;
          }
      | else-not-is_empty w ↦
          let empty : is_nil line.tokens ≡ true = tokens ∙ w.if-not-is_empty.false in
          let here = blank l.left.now line l.deep.now l.ahead.now l.standing.now l.spots.items whole c.in-len1-up.len_at_least c.line-item.is empty l.invariant.goes_on in
          let spots : c.if-not-is_empty.spots.items ≡ l.spots.items = ap (λ v. v.items) w.spots-is in
          let ahead : c.if-not-is_empty.ahead.now ≡ l.ahead.now = ap (λ b. b.now) w.ahead-is in
          let standing : c.if-not-is_empty.standing.now ≡ l.standing.now = ap (λ b. b.now) w.standing-is in
          record {
            goes_on = (λ i. spots i ++ spots_from left (c.behind-deep.ensures i) (ahead i) (standing i)) ∙ here;
            bounded = subst (λ (ns : List SizeRecord). All IsBounded ns) (sym ahead) l.invariant.bounded;
          }
    ]
