use Rattle.std.proofs.Common.{◌≡◌, true, sym, ap, ◌∙◌, subst, arith}
use Rattle.std.proofs.lemmas.Grind.{common_steps}
use Rattle.std.specs.Prelude.{IfSome, IsTrue}
use Rattle.std.specs.Option.{option_map}
use Rattle.kc_bound_walk.specs.Walks.{after_way, with_spent, spent_by}
use Rattle.kc_bound_walk.specs.Parts.{with_step, are_enough, place_of}
use Rattle.kc_bound_walk.proofs.PartLemmas.{part_over}
use Rattle.kc_bound_walk.proofs.part.ended_by.Goals as goal

pub returns-in-Some : goal.returns-in-Some
returns-in-Some c =
    let notes = c.args.notes.now in
    let part = c.args.part in
    let yes : IsTrue c.in_ok-is_way.field-0 = grind (arith, common_steps, c.if-not-branch.false) in
    let enough : are_enough notes.loops.items c.in_ok-turns.turns.items ≡ true =
    ap (λ ls. are_enough ls c.in_ok-turns.turns.items) (sym c.as_slice-4.ensures.value) ∙ ap (λ ts. are_enough c.as_slice-4.result.now ts) (sym c.as_slice-5.ensures.value)
    ∙ grind (arith, common_steps, c.are_enough.ensures, c.if-not-are_enough.false)
    in
    part_over c.args.image.now notes part.begins part.at part.open_calls.items part.turns.items c.in_ok-turns.turns.items part.lines.items c.in-Some.lines.items c.args.way
    (c.in_ok-is_way.ensures yes)
    (ap (after_way notes c.args.way) (sym c.as_slice.ensures.value) ∙ sym c.in_ok-after_way.ensures ∙ ap (option_map place_of) c.in-None.is)
    (c.in_ok-turns.ensures ∙ ap (λ ls. with_step ls c.as_slice-3.result.now part.at) c.as_slice-2.ensures.value ∙ ap (λ ts. with_step notes.loops.items ts part.at) c.as_slice-3.ensures.value)
    enough
    (subst (λ found. IfSome found (λ lines. lines.items ≡ with_spent part.lines.items (spent_by (record { at = part.at; way = c.args.way })))) c.in-Some.is c.in_ok-lines.ensures)
    c.requires
