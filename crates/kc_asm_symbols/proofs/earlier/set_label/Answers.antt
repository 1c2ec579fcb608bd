use Rattle.std.proofs.Common.{◌≡◌, ℕ, List, sym, ap, subst, ◌∙◌}
use Rattle.std.specs.Prelude.{Option, Ok, Err}
use Rattle.kc_asm_symbols.specs.Tables.{answers, answer_at, number_of, label_number, updated}
use Rattle.kc_asm_symbols.specs.Meanings.{with_label}
use Rattle.kc_asm_symbols.proofs.TableLemmas.{label_set}
use Rattle.kc_asm_symbols.proofs.earlier.set_label.Goals as goal

pub returns-in_ok-set-in-Err : goal.returns-in_ok-set-in-Err
returns-in_ok-set-in-Err c = λ numbers is.
    let name = c.in-Some.name in
    let v = c.args.value in
    let look = answers numbers c.args.table.now in
    let next = answers numbers c.set.new.self in
    let number : c.args.number ≡ number_of numbers name = is ∙ ap (label_number numbers) c.in-Some.is in
    let none : look name ≡ Err c.in-Err.field-0 = (λ j. answer_at c.args.table.now (sym number j) (sym c.as_slice.ensures j)) ∙ sym c.look.ensures ∙ c.in-Err.is in
    let grown : next ≡ updated name (Ok v) look
    = c.in_ok-set-in-Err.ensures numbers (number ∙ ap (number_of numbers) (sym c.as_slice-in-Err.ensures)) ∙ ap (λ n. updated n (Ok v) look) c.as_slice-in-Err.ensures in
    subst (λ (label : Option (List ℕ)). next ≡ with_label label v look) (sym c.in-Some.is) (label_set name v c.in-Err.field-0 look next none grown)
