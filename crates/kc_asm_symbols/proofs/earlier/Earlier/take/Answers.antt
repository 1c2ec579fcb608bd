use Rattle.std.proofs.Common.{◌≡◌, ◌+◌, ◌∷◌, List, ℕ, drop, sym, ap, subst, ◌∙◌}
use Rattle.std.proofs.Math.ListN.{drop_of_length-le}
use Rattle.kc_asm_symbols.specs.Tables.{answers, answer_at, number_of, updated}
use Rattle.kc_asm_symbols.specs.Meanings.{with_taken}
use Rattle.kc_asm_symbols.specs.Walk.{shared}
use Rattle.kc_asm_symbols.proofs.ExternalLemmas.{prefix}
use Rattle.kc_asm_symbols.proofs.EarlierLemmas.{taken_more}
use Rattle.kc_asm_symbols.proofs.earlier.Earlier.take.Goals as goal

pub loop-name-preserved : goal.loop-name-preserved
loop-name-preserved c =
    let names = c.args.names.now in
    let i = c.loop-name.name-index in
    let n = c.name-item.result in
    let own = shared c.args.self.now.names in
    let same = c.loop-name.invariant.same in
    let external = answers own.numbers own.taken in
    let latest = answers own.numbers c.loop-name.self.latest in
    let next = answers own.numbers c.set.new.self in
    let all = with_taken external names (answers own.numbers c.args.self.now.latest) in
    let split : drop i names ≡ n ∷ drop (i + 1) names = prefix names i n c.loop-name-test.true c.name-item.is in
    let number : c.number-number.result ≡ number_of own.numbers n
    = c.number-number.ensures ∙ (λ j. number_of ((c.numbers.ensures ∙ ap (λ m. (shared m).numbers) same) j) (c.as_slice.ensures j)) in
    let answer : c.look-answer.result ≡ external n
    = c.look-answer.ensures ∙ (λ j. answer_at ((c.taken.ensures ∙ ap (λ m. (shared m).taken) same) j) (number j) (c.as_slice-in-loop-name.ensures j)) in
    let grown : next ≡ updated n (external n) latest
    = c.in_ok-set.ensures own.numbers (number ∙ ap (number_of own.numbers) (sym c.as_slice-in-loop-name-2.ensures)) ∙ (λ j. updated (c.as_slice-in-loop-name-2.ensures j) (answer j) latest) in
    record {
      same = same;
      here = c.loop-name.invariant.here;
      latest = taken_more external latest next all n (drop (i + 1) names) grown
          (subst (λ (ns : List (List ℕ)). with_taken external ns latest ≡ all) split c.loop-name.invariant.latest);
    }

pub returns-clause-latest : goal.returns-clause-latest
returns-clause-latest c =
    let own = shared c.args.self.now.names in
    let latest = c.loop-name.self.latest in
    ap (λ m. answers (shared m).numbers latest) c.loop-name.invariant.same
    ∙ ap (λ (ns : List (List ℕ)). with_taken (answers own.numbers own.taken) ns (answers own.numbers latest)) (sym (drop_of_length-le c.args.names.now c.loop-name-test.false))
    ∙ c.loop-name.invariant.latest
