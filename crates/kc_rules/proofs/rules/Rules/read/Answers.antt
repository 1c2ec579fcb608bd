use Rattle.std.proofs.Common.{◌≡◌, ◌+◌, ◌≤◌, ◌∷◌, length, drop, arith, rules, sym, ◌∙◌, ap, length-drop}
use Rattle.std.proofs.lemmas.Bool.Decides.{nat_tests}
use Rattle.kc_base.specs.TextLines.{text_lines}
use Rattle.kc_rules.specs.Lines.{Book, read_lines}
use Rattle.kc_rules.proofs.ReadLemmas.{refused, next, ended}
use Rattle.kc_rules.proofs.rules.Rules.read.Goals as goal

pub returns-in_err-read_line : goal.returns-in_err-read_line
returns-in_err-read_line c =
    let l = c.loop-rest in
    let rest = drop c.first_line-len.result.1 l.rest.now in
    let split : text_lines l.rest.now ≡ c.prefix.result.now ∷ text_lines rest = c.first_line-len.ensures.read ∙ ap (λ t. t ∷ text_lines rest) (sym c.prefix.ensures) in
    let reported = refused c.args.clock c.args.bytes.now l.lines l.rest.now c.prefix.result.now rest (record { marks = l.marks.items; rules = l.rules.items })
    c.in_err-read_line.field-0.0 split l.invariant.1 c.in_err-read_line.ensures.fault in
    search (rules, reported)

pub loop-rest-preserved : goal.loop-rest-preserved
loop-rest-preserved c =
    let l = c.loop-rest in
    let rest = drop c.first_line-len.result.1 l.rest.now in
    let split : text_lines l.rest.now ≡ c.prefix.result.now ∷ text_lines rest = c.first_line-len.ensures.read ∙ ap (λ t. t ∷ text_lines rest) (sym c.prefix.ensures) in
    let book : Book = record { marks = l.marks.items; rules = l.rules.items } in
    let more : Book = record { marks = c.read_line.new.marks.items; rules = c.read_line.new.rules.items } in
    let shorter : length c.after-rest.result.now ≡ length rest = ap length c.after-rest.ensures in
    let less : l.lines + 1 + length c.after-rest.result.now ≤ length c.args.bytes.now =
    omega (arith, l.invariant.0, c.first_line-len.ensures.goes, c.first_line-len.ensures.within, length-drop c.first_line-len.result.1 l.rest.now) in (
      less,
      ap (λ r. read_lines c.args.clock (l.lines + 1) (text_lines r) more) c.after-rest.ensures
          ∙ sym (next c.args.clock l.lines l.rest.now c.prefix.result.now rest book more split c.in_ok-read_line.ensures.read) ∙ l.invariant.1,
    )

pub returns : goal.returns
returns c =
    let l = c.loop-rest in
    let none : length l.rest.now ≡ 0 = grind (arith, nat_tests) in
    sym l.invariant.1 ∙ ended c.args.clock l.lines l.rest.now (record { marks = l.marks.items; rules = l.rules.items }) none
