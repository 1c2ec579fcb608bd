use Rattle.std.proofs.Common.{◌≡◌, ◌++◌, ap, ◌∙◌, subst, arith}
use Rattle.std.specs.Prelude.{IfSome}
use Rattle.kc_bound_walk.specs.Walks.{with_all}
use Rattle.kc_bound_walk.specs.Parts.{with_part}
use Rattle.kc_bound_walk.proofs.PartLemmas.{part_part}
use Rattle.kc_bound_walk.proofs.part.with_other.Goals as goal

pub returns : goal.returns
returns c =
    let part = c.args.part in
    let other = c.args.other.now in
    part_part c.args.image.now c.args.notes.now part.begins part.at other.begins other.at part.open_calls.items other.open_calls.items c.in_ok-calls.calls.items part.turns.items other.turns.items c.in_ok-turns.turns.items part.lines.items other.lines.items c.in-Some.lines.items
    (omega (arith, c.if-other-part.false))
    (c.in_ok-calls.ensures ∙ ap (λ cs. cs ++ c.as_slice-3.result.now) c.as_slice-4.ensures.value ∙ ap (λ cs. other.open_calls.items ++ cs) c.as_slice-3.ensures.value)
    (c.in_ok-turns.ensures ∙ ap (λ ts. with_part ts c.as_slice-2.result.now) c.as_slice.ensures.value ∙ ap (λ ts. with_part part.turns.items ts) c.as_slice-2.ensures.value)
    (subst (λ found. IfSome found (λ lines. lines.items ≡ with_all part.lines.items c.as_slice-5.result.now)) c.in-Some.is c.in_ok-lines.ensures ∙ ap (with_all part.lines.items) c.as_slice-5.ensures.value)
    c.requires.part
    c.requires.other
