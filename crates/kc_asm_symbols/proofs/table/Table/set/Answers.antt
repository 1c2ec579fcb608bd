use Rattle.std.proofs.Common.{◌<◌, ◌≤◌, length, refl, sym, ap, subst, ◌∙◌}
use Rattle.std.specs.Vec.{with_item}
use Rattle.std.proofs.lemmas.Option.{slice_get_past}
use Rattle.kc_asm_symbols.specs.declared.table.Table.{Table}
use Rattle.kc_asm_symbols.specs.Tables.{cell}
use Rattle.kc_asm_symbols.proofs.TableLemmas.{numbered_set, other_set}
use Rattle.kc_asm_symbols.proofs.table.Table.set.Goals as goal

pub returns-then-number-len : goal.returns-then-number-len
returns-then-number-len c = λ numbers is.
    let old = c.args.self.now in
    let n = c.in-Some.number in
    let new : Table = record { numbered = with_item old.numbered n c.args.answer; others = old.others } in
    let within : n < length old.numbered.items = subst (λ k. n < k) (c.len.ensures ∙ old.numbered.ok.0) c.if-number-len.true in
    numbered_set numbers old new n c.args.name.now c.args.answer within (sym c.in-Some.is ∙ is) refl refl

pub returns-in_ok-set_other-in-Some : goal.returns-in_ok-set_other-in-Some
returns-in_ok-set_other-in-Some c = λ numbers is.
    let old = c.args.self.now in
    let n = c.in-Some.number in
    let past : length old.numbered.items ≤ n = subst (λ k. k ≤ n) (c.len.ensures ∙ old.numbered.ok.0) c.if-number-len.false in
    other_set numbers old c.set_other.new.self c.args.number c.args.name.now c.args.answer is (ap (cell old) c.in-Some.is ∙ slice_get_past old.numbered.items n past)
    c.in_ok-set_other-in-Some.ensures.numbered c.in_ok-set_other-in-Some.ensures.others

pub returns-in_ok-set_other-in-None : goal.returns-in_ok-set_other-in-None
returns-in_ok-set_other-in-None c = λ numbers is.
    other_set numbers c.args.self.now c.set_other-in-None.new.self c.args.number c.args.name.now c.args.answer is (ap (cell c.args.self.now) c.in-None.is) c.in_ok-set_other-in-None.ensures.numbered
    c.in_ok-set_other-in-None.ensures.others
