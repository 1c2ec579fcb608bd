use Rattle.std.proofs.Common.{◌≡◌, sym, ap, ◌∙◌}
use Rattle.kc_expr.specs.Tree.{tree_of}
use Rattle.kc_asm_symbols.specs.Tables.{answers, number_of, updated}
use Rattle.kc_asm_symbols.specs.Meanings.{or_reported}
use Rattle.kc_asm_symbols.specs.Walk.{at_definition, shared}
use Rattle.kc_asm_symbols.proofs.EarlierLemmas.{defined}
use Rattle.kc_asm_symbols.proofs.earlier.Earlier.define.Goals as goal

pub returns-clause-latest : goal.returns-clause-latest
returns-clause-latest c =
    let e = c.args.self.now in
    let numbers = (shared e.names).numbers in
    let look = answers numbers e.latest in
    let answer = c.reported-answer.result in
    let number : c.number-number.result ≡ number_of numbers c.as_slice-2.result.now
    = c.number-number.ensures ∙ (λ j. number_of (c.numbers.ensures j) ((c.as_slice.ensures ∙ sym c.as_slice-2.ensures) j)) in
    defined c.args.name.now (tree_of c.args.value.now) (at_definition e) look (answers numbers c.set.new.self) answer (c.reported-answer.ensures ∙ ap or_reported c.value_over.ensures)
    (c.in_ok-set.ensures numbers number ∙ ap (λ n. updated n answer look) c.as_slice-2.ensures)
