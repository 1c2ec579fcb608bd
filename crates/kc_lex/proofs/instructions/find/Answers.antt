use Rattle.std.proofs.Common.{rules, true, false, sym}
use Rattle.std.proofs.lemmas.Fn.{always_returns_same}
use Rattle.kc_lex.proofs.SearchLemmas.{order}
use Rattle.kc_lex.proofs.IndexLemmas.{name, searched_there, searched_none, unlike_none}
use Rattle.kc_lex.proofs.instructions.find.Goals as goal

pub returns-in-Ok-clause-plain : goal.returns-in-Ok-clause-plain
returns-in-Ok-clause-plain c =
    let there = c.in-Ok.ensures.position (λ listed. order (name listed) c.args.word.now) (always_returns_same _ _ _ (λ a r f called. search rules)) in
    searched_there c.args.word.now c.in-Ok.at _ c.in-Ok.ensures.bound there false

pub returns-in-Ok-clause-signed : goal.returns-in-Ok-clause-signed
returns-in-Ok-clause-signed c =
    let there = c.in-Ok.ensures.position (λ listed. order (name listed) c.args.word.now) (always_returns_same _ _ _ (λ a r f called. search rules)) in
    searched_there c.args.word.now c.in-Ok.at _ c.in-Ok.ensures.bound there true

pub returns-in-Err-clause-plain : goal.returns-in-Err-clause-plain
returns-in-Err-clause-plain c =
    let parted = c.in-Err.ensures.position (λ listed. order (name listed) c.args.word.now) (always_returns_same _ _ _ (λ a r f called. search rules)) in
    searched_none c.args.word.now c.in-Err.field-0 parted false

pub returns-in-Err-clause-signed : goal.returns-in-Err-clause-signed
returns-in-Err-clause-signed c =
    let parted = c.in-Err.ensures.position (λ listed. order (name listed) c.args.word.now) (always_returns_same _ _ _ (λ a r f called. search rules)) in
    searched_none c.args.word.now c.in-Err.field-0 parted true

pub returns-then-not-is_short_word-clause-plain : goal.returns-then-not-is_short_word-clause-plain
returns-then-not-is_short_word-clause-plain c = unlike_none c.args.word.now (sym c.if-not-is_short_word.ensures) false

pub returns-then-not-is_short_word-clause-signed : goal.returns-then-not-is_short_word-clause-signed
returns-then-not-is_short_word-clause-signed c = unlike_none c.args.word.now (sym c.if-not-is_short_word.ensures) true
