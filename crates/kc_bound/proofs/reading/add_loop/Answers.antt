use Rattle.std.proofs.Common.{◌≡◌, true, false, List, Some, length, map, sym, ap, ◌∙◌}
use Rattle.std.specs.Prelude.{◌==◌, nat_lt}
use Rattle.std.specs.List.{list_any, take_while}
use Rattle.std.specs.Option.{option_map}
use Rattle.kc_bound.specs.declared.notes.Loop.{Loop}
use Rattle.kc_bound.specs.Reading.{LoopRead, loop_read, with_new}
use Rattle.kc_bound.proofs.ReadingLemmas.{new-read, old-read}
use Rattle.kc_bound.proofs.reading.add_loop.Goals as goal

pub returns-then-is_head : goal.returns-then-is_head
returns-then-is_head c =
    let xs = c.args.loops.now.items in
    let x = c.in-Some.l in
    let is = λ (ys : List Loop). list_any (λ (y : Loop). y.head == x.head) ys in
    let old : is xs ≡ true = sym (ap is c.as_slice.ensures.value) ∙ sym c.is_head.ensures ∙ c.if-is_head.true in
    ap (λ o. with_new (λ (r : LoopRead). r.head) (map loop_read xs) (option_map loop_read o)) c.in-Some.is
    ∙ old-read loop_read (λ r. r.head) xs x old

pub returns : goal.returns
returns c =
    let xs = c.args.loops.now.items in
    let x = c.in-Some.l in
    let is = λ (ys : List Loop). list_any (λ (y : Loop). y.head == x.head) ys in
    let new : is xs ≡ false = sym (ap is c.as_slice.ensures.value) ∙ sym c.is_head.ensures ∙ c.if-is_head.false in
    let count = λ (ys : List Loop). length (take_while (λ (y : Loop). nat_lt y.head x.head) ys) in
    let index : c.loops_below-index.result ≡ count xs = c.loops_below-index.ensures.value ∙ ap count c.as_slice-2.ensures.value in
    ap (λ o. with_new (λ (r : LoopRead). r.head) (map loop_read xs) (option_map loop_read o)) c.in-Some.is
    ∙ new-read loop_read (λ r. r.head) xs x c.loops_below-index.result index new
    ∙ ap (λ ys. Some (map loop_read ys)) (sym c.in_ok-insert.ensures.items)
