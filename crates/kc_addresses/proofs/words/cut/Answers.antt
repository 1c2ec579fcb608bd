use Rattle.kc_addresses.proofs.WordLemmas.{cut_word, cut_rest, cut_words}
use Rattle.kc_addresses.proofs.words.cut.Goals as goal

pub returns-clause-words : goal.returns-clause-words
returns-clause-words c =
    let s = c.args.text.now in
    let word = cut_word s _ _ _ c.without_blanks-text.ensures c.word_len-len.ensures.value c.prefix.ensures in
    let rest = cut_rest s _ _ _ c.without_blanks-text.ensures c.word_len-len.ensures.value c.after.ensures in
    cut_words s _ _ word rest
