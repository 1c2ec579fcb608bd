use Rattle.std.proofs.Common.{◌≡◌, Bool, false, List, get_or, drop, length, replicate, sym, ap, ◌∙◌, ◌||◌}
use Rattle.kc_link.specs.Free.{modules_cover}
use Rattle.kc_link.proofs.Marking.{none_yet, written_whole}
use Rattle.kc_link.proofs.taken.taken_by.Goals as goal

pub returns : goal.returns
returns c = λ a low.
    let new = c.mark_modules.new.taken in
    let size : c.in_ok-taken.taken.len ≡ length new = c.in_ok-taken.ensures.len ∙ sym c.mark_modules.ensures.size in
    let whole = written_whole new (drop (length new) c.in_ok-taken.taken.items) c.in_ok-taken.taken.len size in
    let table : c.in_ok-taken.taken.items ≡ replicate 65536 false = c.in_ok-taken.ensures.items_if_clones_equal (λ y e. e) in
    let first : get_or c.deref_mut.result.now a false ≡ false = ap (λ (ts : List Bool). get_or ts a false) (c.deref_mut.ensures.value ∙ table) ∙ none_yet 65536 a in
    ap (λ (ts : List Bool). get_or ts a false) whole ∙ c.mark_modules.ensures.marks a low ∙ ap (λ (b : Bool). b || modules_cover c.args.placed.now 0 c.args.modules.now a) first
