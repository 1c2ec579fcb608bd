use Rattle.std.proofs.Common.{◌++◌, false, List, refl, ap, ◌∙◌}
use Rattle.kc_trace.specs.declared.life.What.{What}
use Rattle.kc_trace.specs.Tables.{level_in}
use Rattle.kc_events.specs.Lives.{input_edges}
use Rattle.kc_events.specs.Coming.{Present}
use Rattle.kc_events.proofs.StepLemmas.{start_is}
use Rattle.kc_events.proofs.course.Course.new.Goals as goal

pub returns-clause-present : goal.returns-clause-present
returns-clause-present c =
    let d = c.args.stimuli in
    let levels = c.start_levels-levels.result in
    let whats = c.put_edges.new.whats.items in
    let edges = c.in_ok-put_edges.ensures ∙ ap (λ (w : List What). w ++ input_edges d (level_in levels) 0) c.new-whats.ensures.items in
    let p : Present = record { drives = d; base = 0; now = 0; levels = level_in levels; whats = whats; has_begun = false } in
    start_is d 0 levels whats c.start_levels-levels.ensures edges p refl
