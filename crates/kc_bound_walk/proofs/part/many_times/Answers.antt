use Rattle.std.proofs.Common.{◌≡◌, [], map, ap, ◌∙◌, subst, arith}
use Rattle.std.proofs.lemmas.Grind.{common_steps}
use Rattle.std.specs.Prelude.{IfSome}
use Rattle.kc_bound_walk.specs.Parts.{repeated, times_more}
use Rattle.kc_bound_walk.proofs.PartLemmas.{part_times}
use Rattle.kc_bound_walk.proofs.part.many_times.Goals as goal

pub returns-in-Some : goal.returns-in-Some
returns-in-Some c =
    let none : c.args.part.open_calls.items ≡ [] = grind (arith, common_steps, c.is_empty.ensures, c.if-not-is_empty.false) in
    part_times c.args.image.now c.args.notes.now c.args.part.begins c.args.part.at c.args.times c.args.part.open_calls.items c.args.part.turns.items c.in_ok-turns.turns.items c.args.part.lines.items c.in-Some.lines.items
    (omega (arith, c.if-times-lt2.false))
    (omega (arith, c.if-part.false))
    none
    (c.in_ok-turns.ensures ∙ ap (map (repeated c.args.times)) c.as_slice.ensures.value)
    (subst (λ found. IfSome found (λ all. all.items ≡ map (times_more c.args.times) c.as_slice-2.result.now)) c.in-Some.is c.in_ok-lines.ensures ∙ ap (map (times_more c.args.times)) c.as_slice-2.ensures.value)
    c.requires
