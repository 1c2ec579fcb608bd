use Rattle.std.proofs.Common.{◌≡◌, ap, ◌∙◌}
use Rattle.kc_asm_symbols.specs.Tables.{answers, answer_at, number_of, updated}
use Rattle.kc_asm_symbols.specs.Located.{located_by, listed}
use Rattle.kc_asm_symbols.specs.Externals.{stack_name}
use Rattle.kc_asm_symbols.specs.Meanings.{external_answer}
use Rattle.kc_asm_symbols.specs.Walk.{shared}
use Rattle.kc_asm_symbols.proofs.EarlierLemmas.{stack_set}
use Rattle.kc_asm_symbols.proofs.earlier.Earlier.new.Goals as goal

pub returns-clause-earlier : goal.returns-clause-earlier
returns-clause-earlier c =
    let all = located_by (listed c.args.values.now) c.args.stmts.now in
    let own = shared c.args.names.now in
    let latest = c.set.new.self in
    let labels = answers own.numbers c.in_ok-latest.latest in
    let external : answers own.numbers own.taken ≡ external_answer all = c.requires.names.external (listed c.args.values.now) in
    let number : c.number-number.result ≡ number_of own.numbers stack_name = c.number-number.ensures ∙ ap (λ n. number_of n stack_name) c.numbers.ensures in
    let answer : c.look.result ≡ answers own.numbers own.taken stack_name = c.look.ensures ∙ (λ j. answer_at (c.taken.ensures j) (number j) stack_name) in
    let grown : answers own.numbers latest ≡ updated stack_name (answers own.numbers own.taken stack_name) labels
    = c.in_ok-set.ensures own.numbers number ∙ ap (λ a. updated stack_name a labels) answer in
    record {
      external = ap (λ m. answers m.numbers m.taken) c.in_ok-copy.ensures ∙ external;
      latest = ap (λ m. answers m.numbers latest) c.in_ok-copy.ensures
          ∙ stack_set all labels (answers own.numbers own.taken) (answers own.numbers latest) c.in_ok-latest.ensures external grown;
    }
