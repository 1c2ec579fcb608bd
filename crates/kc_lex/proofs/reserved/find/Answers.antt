use Rattle.std.proofs.Common.{rules, sym}
use Rattle.std.proofs.lemmas.Fn.{always_returns_same}
use Rattle.kc_lex.proofs.SearchLemmas.{order}
use Rattle.kc_lex.proofs.ReservedLemmas.{found_there, found_none, says_unlike}
use Rattle.kc_lex.proofs.reserved.find.Goals as goal

pub returns-in-Ok-clause-operator : goal.returns-in-Ok-clause-operator
returns-in-Ok-clause-operator c =
    let there = c.in-Ok.ensures.position (λ entry. order entry.0.now c.args.word.now) (always_returns_same _ _ _ (λ a r f called. search rules)) in
    (found_there (λ entry. (entry.0.now, entry.1)) _ c.all_words-words.ensures c.args.word.now c.in-Ok.at _ c.in-Ok.ensures.bound there).operator

pub returns-in-Err-clause-operator : goal.returns-in-Err-clause-operator
returns-in-Err-clause-operator c =
    let parted = c.in-Err.ensures.position (λ entry. order entry.0.now c.args.word.now) (always_returns_same _ _ _ (λ a r f called. search rules)) in
    (found_none (λ entry. (entry.0.now, entry.1)) _ c.all_words-words.ensures c.args.word.now c.in-Err.field-0 parted).operator

pub returns-in-Ok-clause-condition : goal.returns-in-Ok-clause-condition
returns-in-Ok-clause-condition c =
    let there = c.in-Ok.ensures.position (λ entry. order entry.0.now c.args.word.now) (always_returns_same _ _ _ (λ a r f called. search rules)) in
    (found_there (λ entry. (entry.0.now, entry.1)) _ c.all_words-words.ensures c.args.word.now c.in-Ok.at _ c.in-Ok.ensures.bound there).condition

pub returns-in-Err-clause-condition : goal.returns-in-Err-clause-condition
returns-in-Err-clause-condition c =
    let parted = c.in-Err.ensures.position (λ entry. order entry.0.now c.args.word.now) (always_returns_same _ _ _ (λ a r f called. search rules)) in
    (found_none (λ entry. (entry.0.now, entry.1)) _ c.all_words-words.ensures c.args.word.now c.in-Err.field-0 parted).condition

pub returns-in-Ok-clause-branch : goal.returns-in-Ok-clause-branch
returns-in-Ok-clause-branch c =
    let there = c.in-Ok.ensures.position (λ entry. order entry.0.now c.args.word.now) (always_returns_same _ _ _ (λ a r f called. search rules)) in
    (found_there (λ entry. (entry.0.now, entry.1)) _ c.all_words-words.ensures c.args.word.now c.in-Ok.at _ c.in-Ok.ensures.bound there).branch

pub returns-in-Err-clause-branch : goal.returns-in-Err-clause-branch
returns-in-Err-clause-branch c =
    let parted = c.in-Err.ensures.position (λ entry. order entry.0.now c.args.word.now) (always_returns_same _ _ _ (λ a r f called. search rules)) in
    (found_none (λ entry. (entry.0.now, entry.1)) _ c.all_words-words.ensures c.args.word.now c.in-Err.field-0 parted).branch

pub returns-in-Ok-clause-directive : goal.returns-in-Ok-clause-directive
returns-in-Ok-clause-directive c =
    let there = c.in-Ok.ensures.position (λ entry. order entry.0.now c.args.word.now) (always_returns_same _ _ _ (λ a r f called. search rules)) in
    (found_there (λ entry. (entry.0.now, entry.1)) _ c.all_words-words.ensures c.args.word.now c.in-Ok.at _ c.in-Ok.ensures.bound there).directive

pub returns-in-Err-clause-directive : goal.returns-in-Err-clause-directive
returns-in-Err-clause-directive c =
    let parted = c.in-Err.ensures.position (λ entry. order entry.0.now c.args.word.now) (always_returns_same _ _ _ (λ a r f called. search rules)) in
    (found_none (λ entry. (entry.0.now, entry.1)) _ c.all_words-words.ensures c.args.word.now c.in-Err.field-0 parted).directive

pub returns-in-Ok-clause-stack : goal.returns-in-Ok-clause-stack
returns-in-Ok-clause-stack c =
    let there = c.in-Ok.ensures.position (λ entry. order entry.0.now c.args.word.now) (always_returns_same _ _ _ (λ a r f called. search rules)) in
    (found_there (λ entry. (entry.0.now, entry.1)) _ c.all_words-words.ensures c.args.word.now c.in-Ok.at _ c.in-Ok.ensures.bound there).stack

pub returns-in-Err-clause-stack : goal.returns-in-Err-clause-stack
returns-in-Err-clause-stack c =
    let parted = c.in-Err.ensures.position (λ entry. order entry.0.now c.args.word.now) (always_returns_same _ _ _ (λ a r f called. search rules)) in
    (found_none (λ entry. (entry.0.now, entry.1)) _ c.all_words-words.ensures c.args.word.now c.in-Err.field-0 parted).stack

pub returns-then-not-is_short_word-clause-operator : goal.returns-then-not-is_short_word-clause-operator
returns-then-not-is_short_word-clause-operator c = (says_unlike c.args.word.now (sym c.if-not-is_short_word.ensures)).operator

pub returns-then-not-is_short_word-clause-condition : goal.returns-then-not-is_short_word-clause-condition
returns-then-not-is_short_word-clause-condition c = (says_unlike c.args.word.now (sym c.if-not-is_short_word.ensures)).condition

pub returns-then-not-is_short_word-clause-branch : goal.returns-then-not-is_short_word-clause-branch
returns-then-not-is_short_word-clause-branch c = (says_unlike c.args.word.now (sym c.if-not-is_short_word.ensures)).branch

pub returns-then-not-is_short_word-clause-directive : goal.returns-then-not-is_short_word-clause-directive
returns-then-not-is_short_word-clause-directive c = (says_unlike c.args.word.now (sym c.if-not-is_short_word.ensures)).directive

pub returns-then-not-is_short_word-clause-stack : goal.returns-then-not-is_short_word-clause-stack
returns-then-not-is_short_word-clause-stack c = (says_unlike c.args.word.now (sym c.if-not-is_short_word.ensures)).stack
