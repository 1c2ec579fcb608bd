use Rattle.std.proofs.Common.{◌≡◌, suc, ◌-◌, ◌∷◌, drop, sym, ap, ◌∙◌, arith}
use Rattle.std.proofs.Math.Seq.{drop-cons, drop-length}
use Rattle.kc_source.specs.Known.{summary}
use Rattle.kc_source.proofs.TableLemmas.{empty_table, table_grows}
use Rattle.kc_source.proofs.names.table_of.Goals as goal

pub loop-left-init : goal.loop-left-init
loop-left-init c = record {
  within = omega arith;
  table = λ name. empty_table c.new-table.result.map.entries c.new-table.ensures name ∙ ap (λ us. summary us name) (sym (drop-length c.args.uses.now));
}

pub loop-left-preserved : goal.loop-left-preserved
loop-left-preserved c =
    let uses = c.args.uses.now in
    let u = c.index-uses-left.result in
    let next : suc (c.loop-left.left - 1) ≡ c.loop-left.left = omega arith in
    let prefix : drop (c.loop-left.left - 1) uses ≡ u ∷ drop c.loop-left.left uses = drop-cons uses (c.loop-left.left - 1) u (omega arith) ∙ (λ i. sym c.index-uses-left.is i ∷ drop (next i) uses) in
    let here = rw c.as_slice.ensures at c.in_ok-note.ensures.here in
    let others = rw c.as_slice.ensures at c.in_ok-note.ensures.others in
    record {
      within = omega arith;
      table = λ name. table_grows c.loop-left.table.map.entries c.note.new.self.map.entries (drop c.loop-left.left uses) u c.loop-left.invariant.table here others name ∙ ap (λ us. summary us name) (sym prefix);
    }
