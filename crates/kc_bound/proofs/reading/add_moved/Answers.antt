use Rattle.std.proofs.Common.{◌≡◌, false, List, Some, length, sym, ap, ◌∙◌}
use Rattle.std.specs.Prelude.{◌==◌, nat_lt}
use Rattle.std.specs.List.{list_any, take_while}
use Rattle.kc_bound.specs.declared.notes.Moved.{Moved}
use Rattle.kc_bound.specs.Reading.{with_new}
use Rattle.kc_bound.proofs.ReadingLemmas.{new-one}
use Rattle.kc_bound.proofs.reading.add_moved.Goals as goal

pub returns : goal.returns
returns c =
    let xs = c.args.words.now.items in
    let x = c.in-Some.m in
    let is = λ (ys : List Moved). list_any (λ (y : Moved). y.block == x.block) ys in
    let new : is xs ≡ false = sym (ap is c.as_slice.ensures.value) ∙ sym c.is_block.ensures ∙ c.if-is_block.false in
    let count = λ (ys : List Moved). length (take_while (λ (y : Moved). nat_lt y.block x.block) ys) in
    let index : c.words_below-index.result ≡ count xs = c.words_below-index.ensures.value ∙ ap count c.as_slice-2.ensures.value in
    ap (λ o. with_new (λ (m : Moved). m.block) xs o) c.in-Some.is
    ∙ new-one (λ m. m.block) xs x c.words_below-index.result index new
    ∙ ap (λ ys. Some ys) (sym c.in_ok-insert.ensures.items)
