use Rattle.std.proofs.Common.{◌≡◌, ◌++◌, List, sym, ap, ◌∙◌, append_assoc, rules}
use Rattle.kc_trace.specs.declared.life.What.{What}
use Rattle.kc_trace.specs.Tables.{level_in}
use Rattle.kc_events.specs.Lives.{edge_if_input}
use Rattle.kc_events.proofs.InputLemmas.{edges_below, edges-more, edges-all}
use Rattle.kc_events.proofs.inputs.put_edges.Goals as goal

pub loop-pin-preserved : goal.loop-pin-preserved
loop-pin-preserved c =
    let d = c.args.stimuli.now in
    let levels = level_in c.args.levels.now in
    let before = c.args.whats.now.items in
    let pin = c.loop-pin.pin in
    c.in_ok-put_edge.ensures
    ∙ ap (λ (whats : List What). whats ++ edge_if_input d levels c.args.at pin) c.loop-pin.invariant
    ∙ append_assoc before (edges_below d levels c.args.at pin) (edge_if_input d levels c.args.at pin)
    ∙ ap (λ (whats : List What). before ++ whats) (sym (edges-more d levels c.args.at pin))

pub returns : goal.returns
returns c =
    let d = c.args.stimuli.now in
    let levels = level_in c.args.levels.now in
    let before = c.args.whats.now.items in
    let all : c.loop-pin.pin ≡ 41 = search rules in
    c.loop-pin.invariant ∙ (λ i. before ++ edges_below d levels c.args.at (all i)) ∙ ap (λ (whats : List What). before ++ whats) (sym (edges-all d levels c.args.at))
