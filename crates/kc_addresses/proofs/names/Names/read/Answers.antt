use Rattle.std.proofs.Common.{◌≡◌, ◌+◌, ◌-◌, Some, None, length, take, drop, sym, ap, ◌∙◌, length-drop, arith}
use Rattle.std.proofs.lemmas.Bool.{eqb-true}
use Rattle.kc_base.specs.TextLines.{text_lines}
use Rattle.kc_addresses.specs.Lines.{read_from}
use Rattle.kc_addresses.specs.Names.{with_line}
use Rattle.kc_addresses.proofs.LineLemmas.{read-some, read-none, read-end, is_added, says_nothing}
use Rattle.kc_addresses.proofs.names.Names.read.Goals as goal

pub returns-then-not-branch : goal.returns-then-not-branch
returns-then-not-branch c =
    let names = c.loop-rest.names.items in
    let rest = c.loop-rest.rest.now in
    let line = take c.first_line-len.result.0 rest in
    let none : with_line names line ≡ None =
    sym (ap (with_line names) c.prefix.ensures) ∙ says_nothing c.in_ok-add_line.field-0 (with_line names c.prefix.result.now) c.add_line.new.names.items c.if-not-branch.true c.in_ok-add_line.ensures in
    sym c.loop-rest.invariant.0 ∙ read-none with_line c.loop-rest.number names rest line (drop c.first_line-len.result.1 rest) c.first_line-len.ensures.read none

pub loop-rest-preserved : goal.loop-rest-preserved
loop-rest-preserved c =
    let names = c.loop-rest.names.items in
    let more = c.add_line.new.names.items in
    let number = c.loop-rest.number in
    let rest = c.loop-rest.rest.now in
    let line = take c.first_line-len.result.0 rest in
    let some : with_line names line ≡ Some more =
    sym (ap (with_line names) c.prefix.ensures) ∙ is_added c.in_ok-add_line.field-0 (with_line names c.prefix.result.now) more c.if-not-branch.false c.in_ok-add_line.ensures in
    let shorter : length c.after-rest.result.now ≡ length rest - c.first_line-len.result.1 = ap length c.after-rest.ensures ∙ length-drop c.first_line-len.result.1 rest in (
      ap (λ t. read_from with_line (number + 1) more (text_lines t)) c.after-rest.ensures
          ∙ read-some with_line number names more rest line (drop c.first_line-len.result.1 rest) c.first_line-len.ensures.read some
          ∙ c.loop-rest.invariant.0,
      omega (arith, shorter, c.first_line-len.ensures.goes, c.first_line-len.ensures.within, c.loop-rest.invariant.1),
    )

pub returns : goal.returns
returns c =
    sym c.loop-rest.invariant.0
    ∙ read-end with_line c.loop-rest.number c.loop-rest.names.items c.loop-rest.rest.now (eqb-true _ _ (sym c.loop-rest-test.ensures))
