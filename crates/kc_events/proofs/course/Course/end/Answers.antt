use Rattle.std.proofs.Common.{◌≡◌, ◌++◌, ◌+◌, true, false, List, refl, sym, ap, ◌∙◌, rules}
use Rattle.std.proofs.lemmas.Result.{on_ok_weaker}
use Rattle.kc_trace.specs.declared.life.What.{What}
use Rattle.kc_trace.specs.Tables.{level_in}
use Rattle.kc_events.specs.Lives.{input_edges}
use Rattle.kc_events.specs.Coming.{Present, others_of}
use Rattle.kc_events.proofs.StepLemmas.{start_is, start_rest}
use Rattle.kc_events.proofs.course.Course.end.Goals as goal

pub returns-clause-rest : goal.returns-clause-rest
returns-clause-rest c =
    let d = c.self.inside.stimuli in
    let base = c.self.inside.base + c.args.count in
    let levels = c.start_levels-self-inside.result in
    let whats = c.put_edges.new.whats.items in
    let is : c.args.is_followed ≡ true = search rules in
    let p : Present = record { drives = d; base = base; now = 0; levels = level_in levels; whats = whats; has_begun = false } in
    on_ok_weaker c.put_edges.result (λ put lines.
    let edges = put ∙ ap (λ (w : List What). w ++ input_edges d (level_in levels) base) c.clear.ensures.items in
    start_rest d base p (start_is d base levels whats c.start_levels-self-inside.ensures edges p refl) lines
    ∙ (λ i. others_of (sym is i) (c.self.view_is i).drives ((c.self.view_is i).base + c.args.count) lines))
    c.put_edges.ensures
