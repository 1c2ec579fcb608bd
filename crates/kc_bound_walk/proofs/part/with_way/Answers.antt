use Rattle.std.proofs.Common.{◌≡◌, sym, ap, ◌∙◌, subst, arith}
use Rattle.std.proofs.lemmas.Grind.{common_steps}
use Rattle.std.specs.Prelude.{IfSome, IsTrue}
use Rattle.std.specs.Option.{option_map}
use Rattle.kc_bound_walk.specs.Walks.{after_way, with_spent, spent_by}
use Rattle.kc_bound_walk.specs.Parts.{with_step, place_of}
use Rattle.kc_bound_walk.proofs.PartLemmas.{part_step}
use Rattle.kc_bound_walk.proofs.part.with_way.Goals as goal

pub returns : goal.returns
returns c =
    let notes = c.args.notes.now in
    let part = c.args.part in
    let yes : IsTrue c.in_ok-is_way.field-0 = grind (arith, common_steps, c.if-not-branch.false) in
    part_step c.args.image.now notes part.begins part.at c.in-Some.place.at part.open_calls.items c.in-Some.place.open_calls.items part.turns.items c.in_ok-turns.turns.items part.lines.items c.in-Some-2.lines.items c.args.way
    (c.in_ok-is_way.ensures yes)
    (ap (after_way notes c.args.way) (sym c.as_slice.ensures.value) ∙ sym c.in_ok-place.ensures ∙ ap (option_map place_of) c.in-Some.is)
    (c.in_ok-turns.ensures ∙ ap (λ ls. with_step ls c.as_slice-3.result.now part.at) c.as_slice-2.ensures.value ∙ ap (λ ts. with_step notes.loops.items ts part.at) c.as_slice-3.ensures.value)
    (subst (λ found. IfSome found (λ lines. lines.items ≡ with_spent part.lines.items (spent_by (record { at = part.at; way = c.args.way })))) c.in-Some-2.is c.in_ok-lines.ensures)
    c.requires
