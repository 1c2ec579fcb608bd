use Rattle.std.proofs.Common.{◌+◌, ◌*◌, ◌%◌, ◌++◌, sym, ◌∙◌, ap, append-nil, append_assoc, arith}
use Rattle.kc_gen.specs.Sources.{word_line, word_lines}
use Rattle.kc_gen.proofs.Growing.{random-first, random-more, word_lines-none, word_lines-more}
use Rattle.kc_gen.proofs.sources.put_words.Goals as goal

pub loop-count-init : goal.loop-count-init
loop-count-init c = (sym (random-first c.args.number), sym (ap (λ t. c.args.text.now.items ++ t) (word_lines-none c.args.number) ∙ append-nil c.args.text.now.items), omega arith)

pub loop-count-preserved : goal.loop-count-preserved
loop-count-preserved c =
    let before = c.args.text.now.items in
    let number = c.args.number in
    let done = c.loop-count.count in (
      c.random_after-value.ensures ∙ ap (λ n. (25173 * n + 13849) % 65536) c.loop-count.invariant.0 ∙ sym (random-more number done),
      c.in_ok-put_line.ensures.text ∙ ap (λ t. t ++ word_line c.loop-count.value) c.loop-count.invariant.1
          ∙ append_assoc before (word_lines number done) (word_line c.loop-count.value)
          ∙ ap (λ n. before ++ (word_lines number done ++ word_line n)) c.loop-count.invariant.0
          ∙ ap (λ t. before ++ t) (sym (word_lines-more number done)),
      omega (arith, c.in_ok-put_line.ensures.short),
    )
