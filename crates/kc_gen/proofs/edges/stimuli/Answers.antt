use Rattle.std.proofs.Common.{◌≡◌, ◌+◌, ◌*◌, ◌%◌, ◌++◌, sym, ◌∙◌, ap, arith}
use Rattle.kc_gen.specs.Randoms.{random}
use Rattle.kc_gen.specs.Stimuli.{time, edge_line, edge_lines}
use Rattle.kc_gen.proofs.Growing.{random-first, random-more, time-first, time-more, edge_lines-none, edge_lines-more}
use Rattle.kc_gen.proofs.edges.stimuli.Goals as goal

pub loop-count-init : goal.loop-count-init
loop-count-init c = (
  sym (random-first c.args.number),
  sym (time-first c.args.number),
  omega arith,
  c.new-text.ensures.items ∙ sym (edge_lines-none c.args.number),
  omega (arith, c.new-text.ensures.len),
)

pub loop-count-preserved : goal.loop-count-preserved
loop-count-preserved c =
    let number = c.args.number in
    let done = c.loop-count.count in
    let later : c.loop-count.at + (200 + c.from.result) ≡ time number done + 200 + random number done % 64 =
    omega (arith, c.loop-count.invariant.1, c.from.ensures ∙ ap (λ n. n % 64) c.loop-count.invariant.0) in (
      c.random_after-value.ensures ∙ ap (λ n. (25173 * n + 13849) % 65536) c.loop-count.invariant.0 ∙ sym (random-more number done),
      later ∙ sym (time-more number done),
      omega arith,
      c.in_ok-put_edge.ensures.text ∙ ap (λ t. t ++ edge_line c.loop-count.at done) c.loop-count.invariant.3
          ∙ ap (λ at. edge_lines number done ++ edge_line at done) c.loop-count.invariant.1
          ∙ sym (edge_lines-more number done),
      omega (arith, c.in_ok-put_edge.ensures.short),
    )
