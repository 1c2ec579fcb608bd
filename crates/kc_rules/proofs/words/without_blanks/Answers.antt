use Rattle.std.proofs.Common.{◌≡◌, ◌<◌, ◌∙◌, sym, ap, subst, false, length, drop, get_or}
use Rattle.kc_rules.specs.Words.{is_blank, words_in}
use Rattle.kc_rules.proofs.WordLemmas.{length-take_while, words_behind_blanks, blank_ahead}
use Rattle.kc_rules.proofs.words.without_blanks.Goals as goal

pub returns-clause-same : goal.returns-clause-same
returns-clause-same c =
    let s = c.args.text.now in
    ap words_in (c.after.ensures ∙ ap (λ n. drop n s) (c.blank_count.ensures.value ∙ length-take_while is_blank s)) ∙ words_behind_blanks s

pub returns-clause-ahead : goal.returns-clause-ahead
returns-clause-ahead c =
    let s = c.args.text.now in
    subst (λ t. 0 < length t → is_blank (get_or t 0 0) ≡ false)
    (sym (c.after.ensures ∙ ap (λ n. drop n s) (c.blank_count.ensures.value ∙ length-take_while is_blank s))) (blank_ahead s)
