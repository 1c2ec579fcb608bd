use Rattle.std.proofs.Common.{◌≡◌, true, false, List, Some, length, map, sym, ap, ◌∙◌}
use Rattle.std.specs.Prelude.{◌==◌, nat_lt}
use Rattle.std.specs.List.{list_any, take_while}
use Rattle.std.specs.Option.{option_map}
use Rattle.kc_bound.specs.declared.notes.Goes.{Goes}
use Rattle.kc_bound.specs.Reading.{GoesRead, goes_read, with_new}
use Rattle.kc_bound.proofs.ReadingLemmas.{new-read, old-read}
use Rattle.kc_bound.proofs.reading.add_goes.Goals as goal

pub returns-then-is_jump : goal.returns-then-is_jump
returns-then-is_jump c =
    let xs = c.args.goes.now.items in
    let x = c.in-Some.g in
    let is = λ (ys : List Goes). list_any (λ (y : Goes). y.jump == x.jump) ys in
    let old : is xs ≡ true = sym (ap is c.as_slice.ensures.value) ∙ sym c.is_jump.ensures ∙ c.if-is_jump.true in
    ap (λ o. with_new (λ (r : GoesRead). r.jump) (map goes_read xs) (option_map goes_read o)) c.in-Some.is
    ∙ old-read goes_read (λ r. r.jump) xs x old

pub returns : goal.returns
returns c =
    let xs = c.args.goes.now.items in
    let x = c.in-Some.g in
    let is = λ (ys : List Goes). list_any (λ (y : Goes). y.jump == x.jump) ys in
    let new : is xs ≡ false = sym (ap is c.as_slice.ensures.value) ∙ sym c.is_jump.ensures ∙ c.if-is_jump.false in
    let count = λ (ys : List Goes). length (take_while (λ (y : Goes). nat_lt y.jump x.jump) ys) in
    let index : c.goes_below-index.result ≡ count xs = c.goes_below-index.ensures.value ∙ ap count c.as_slice-2.ensures.value in
    ap (λ o. with_new (λ (r : GoesRead). r.jump) (map goes_read xs) (option_map goes_read o)) c.in-Some.is
    ∙ new-read goes_read (λ r. r.jump) xs x c.goes_below-index.result index new
    ∙ ap (λ ys. Some (map goes_read ys)) (sym c.in_ok-insert.ensures.items)
