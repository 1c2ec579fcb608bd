use Rattle.std.proofs.Common.{◌≡◌, ◌+◌, ◌-◌, Some, None, length, take, drop, sym, ap, ◌∙◌, length-drop, arith}
use Rattle.std.proofs.lemmas.Bool.{eqb-true}
use Rattle.kc_base.specs.TextLines.{text_lines}
use Rattle.kc_addresses.specs.Lines.{read_from}
use Rattle.kc_addresses.proofs.LineLemmas.{read-some, read-none, read-end, is_added, says_nothing}
use Rattle.kc_bound.specs.Reading.{address_of, notes_read, with_line}
use Rattle.kc_bound.proofs.notes.Notes.read.Goals as goal

pub returns-then-not-branch : goal.returns-then-not-branch
returns-then-not-branch c =
    let add = with_line (address_of c.args.names.now c.args.lines.now) in
    let notes = notes_read c.loop-rest.notes in
    let rest = c.loop-rest.rest.now in
    let line = take c.first_line-len.result.0 rest in
    let none : add notes line ≡ None =
    sym (ap (add notes) c.prefix.ensures) ∙ says_nothing c.in_ok-add_line.field-0 (add notes c.prefix.result.now) (notes_read c.add_line.new.notes) c.if-not-branch.true c.in_ok-add_line.ensures in
    sym c.loop-rest.invariant.0 ∙ read-none add c.loop-rest.number notes rest line (drop c.first_line-len.result.1 rest) c.first_line-len.ensures.read none

pub loop-rest-preserved : goal.loop-rest-preserved
loop-rest-preserved c =
    let add = with_line (address_of c.args.names.now c.args.lines.now) in
    let notes = notes_read c.loop-rest.notes in
    let more = notes_read c.add_line.new.notes in
    let number = c.loop-rest.number in
    let rest = c.loop-rest.rest.now in
    let line = take c.first_line-len.result.0 rest in
    let some : add notes line ≡ Some more =
    sym (ap (add notes) c.prefix.ensures) ∙ is_added c.in_ok-add_line.field-0 (add notes c.prefix.result.now) more c.if-not-branch.false c.in_ok-add_line.ensures in
    let shorter : length c.after-rest.result.now ≡ length rest - c.first_line-len.result.1 = ap length c.after-rest.ensures ∙ length-drop c.first_line-len.result.1 rest in (
      ap (λ t. read_from add (number + 1) more (text_lines t)) c.after-rest.ensures
          ∙ read-some add number notes more rest line (drop c.first_line-len.result.1 rest) c.first_line-len.ensures.read some
          ∙ c.loop-rest.invariant.0,
      omega (arith, shorter, c.first_line-len.ensures.goes, c.first_line-len.ensures.within, c.loop-rest.invariant.1),
    )

pub returns : goal.returns
returns c =
    sym c.loop-rest.invariant.0
    ∙ read-end (with_line (address_of c.args.names.now c.args.lines.now)) c.loop-rest.number (notes_read c.loop-rest.notes) c.loop-rest.rest.now (eqb-true _ _ (sym c.loop-rest-test.ensures))
