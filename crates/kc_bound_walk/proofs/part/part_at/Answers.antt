use Rattle.std.proofs.Common.{ap, ◌∙◌}
use Rattle.kc_bound_walk.specs.Parts.{none_taken}
use Rattle.kc_bound_walk.proofs.PartLemmas.{no_part}
use Rattle.kc_bound_walk.proofs.part.part_at.Goals as goal

pub returns : goal.returns
returns c = no_part c.args.image.now c.args.notes.now c.args.at c.new.result.items c.in_ok-none_taken.field-0.items c.new-2.result.items
    c.new.ensures.items (c.in_ok-none_taken.ensures ∙ ap none_taken c.as_slice.ensures.value) c.new-2.ensures.items
