use Rattle.std.proofs.Common.{true, false, ◌∙◌, sym, map, string_bytes}
use Rattle.kc_kit_words.proofs.OptionLemmas.{value_of-first, value_of-none}
use Rattle.kc_kit_words.proofs.options.value_of.Goals as goal

pub returns-then-eq : goal.returns-then-eq
returns-then-eq c =
    sym (c.loop-word.invariant ∙ value_of-first c.args.option.now (map string_bytes c.loop-word.left.now) (c.in-Some.word.now, c.in-Some.value.now) (map string_bytes c.in-Some.rest.now) true
    (sym c.in-Some.ensures.first) (sym c.if-eq.ensures))

pub loop-word-preserved : goal.loop-word-preserved
loop-word-preserved c =
    c.loop-word.invariant ∙ value_of-first c.args.option.now (map string_bytes c.loop-word.left.now) (c.in-Some.word.now, c.in-Some.value.now) (map string_bytes c.in-Some.rest.now) false
    (sym c.in-Some.ensures.first) (sym c.if-eq.ensures)

pub returns : goal.returns
returns c = sym (c.loop-word.invariant ∙ value_of-none c.args.option.now (map string_bytes c.loop-word.left.now) (sym c.in_default.ensures.first))
