use Rattle.std.proofs.Common.{◌≡◌, ◌∷◌, ◌∙◌, sym, ap, subst, false, eqb, take, drop, get_or, arith}
use Rattle.std.proofs.lemmas.Bool.Decides.{nat_tests}
use Rattle.kc_rules.specs.Words.{words_in}
use Rattle.kc_rules.proofs.WordLemmas.{in_word, length-take_while, words-comma, words-first, prefix_len-some}
use Rattle.kc_rules.proofs.words.word_len.Goals as goal

pub returns-then-text-eq44-clause-word : goal.returns-then-text-eq44-clause-word
returns-then-text-eq44-clause-word c =
    words-comma c.args.text.now c.requires.some c.requires.ahead (ap (λ n. eqb n 44) c.if-text-eq44.true)

pub returns-clause-word : goal.returns-clause-word
returns-clause-word c =
    let s = c.args.text.now in
    let other : eqb (get_or s 0 0) 44 ≡ false = grind (arith, nat_tests) in
    subst (λ n. words_in s ≡ take n s ∷ words_in (drop n s)) (sym (c.plain_count.ensures.value ∙ length-take_while in_word s))
    (words-first s c.requires.some c.requires.ahead other)

pub returns-clause-goes : goal.returns-clause-goes
returns-clause-goes c =
    let s = c.args.text.now in
    let other : eqb (get_or s 0 0) 44 ≡ false = grind (arith, nat_tests) in
    let len = c.plain_count.ensures.value ∙ length-take_while in_word s in
    let some = prefix_len-some s c.requires.some c.requires.ahead other in
    omega (arith, len, some)
