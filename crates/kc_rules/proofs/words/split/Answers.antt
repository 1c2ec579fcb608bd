use Rattle.std.proofs.Common.{◌≡◌, [], ◌++◌, ◌∙◌, sym, ap, arith}
use Rattle.std.proofs.lemmas.List.{append-nil}
use Rattle.std.proofs.lemmas.Grind.{common_steps}
use Rattle.kc_rules.specs.Words.{words_in}
use Rattle.kc_rules.proofs.WordLemmas.{words-none}
use Rattle.kc_rules.proofs.words.split.Goals as goal

pub returns : goal.returns
returns c =
    let words = c.loop-rest.words.items in
    let none : words_in c.loop-rest.rest.now ≡ [] = words-none c.loop-rest.rest.now (grind (arith, common_steps)) in
    sym (c.loop-rest.invariant.0 ∙ ap (λ ws. words ++ ws) none ∙ append-nil words)
