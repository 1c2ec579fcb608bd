use Rattle.std.proofs.Common.{◌≡◌, ◌+◌, ◌≤◌, true, false, not, length, take, drop, arith, sym, ◌∙◌, ap, Ok, length-drop}
use Rattle.std.specs.Prelude.{fold}
use Rattle.std.proofs.lemmas.Bool.{not-true}
use Rattle.std.proofs.lemmas.Bool.Decides.{nat_tests}
use Rattle.kc_convert.specs.Parts.{samples_in}
use Rattle.kc_convert.specs.Lines.{item_of}
use Rattle.kc_convert.specs.Reading.{first_bad, items_of, with_item, is_bad}
use Rattle.kc_convert.proofs.FieldLaws.{not_false}
use Rattle.kc_convert.proofs.ReadLines.{fault-done, samples-done, fault-next, samples-next, fault-found, nothing_left}
use Rattle.kc_convert.proofs.analog.index_of.Goals as goal

pub returns-in-Ok-false-clause-refused : goal.returns-in-Ok-false-clause-refused
returns-in-Ok-false-clause-refused c =
    let item_is : c.item.result ≡ item_of (take c.first_line-len.result.0 c.loop-rest.rest.now) = c.item.ensures ∙ ap item_of c.prefix.ensures in
    let known : not (is_bad (samples_in c.loop-rest.index) c.item.result) ≡ false = sym c.in-Ok-false.ensures.taken ∙ c.in-Ok-false.field-0-test in
    sym c.loop-rest.invariant.1
    ∙ fault-found c.loop-rest.lines (samples_in c.loop-rest.index) c.loop-rest.rest.now (take c.first_line-len.result.0 c.loop-rest.rest.now)
    (drop c.first_line-len.result.1 c.loop-rest.rest.now) c.first_line-len.ensures.read
    (ap (λ i. is_bad (samples_in c.loop-rest.index) i) (sym item_is) ∙ not_false _ known)

pub loop-rest-preserved : goal.loop-rest-preserved
loop-rest-preserved c =
    let item_is : c.item.result ≡ item_of (take c.first_line-len.result.0 c.loop-rest.rest.now) = c.item.ensures ∙ ap item_of c.prefix.ensures in
    let accepted : c.take.result ≡ Ok true = c.in-Ok-true.is ∙ ap (λ o. Ok o) c.in-Ok-true.field-0-test in
    let known : not (is_bad (samples_in c.loop-rest.index) c.item.result) ≡ true = sym c.in-Ok-true.ensures.taken ∙ c.in-Ok-true.field-0-test in
    let none : is_bad (samples_in c.loop-rest.index) (item_of (take c.first_line-len.result.0 c.loop-rest.rest.now)) ≡ false =
    ap (λ i. is_bad (samples_in c.loop-rest.index) i) (sym item_is) ∙ not-true _ known in
    let new : samples_in c.take.new.self ≡ with_item (samples_in c.loop-rest.index) (item_of (take c.first_line-len.result.0 c.loop-rest.rest.now)) =
    c.take.ensures.samples accepted ∙ ap (λ i. with_item (samples_in c.loop-rest.index) i) item_is in
    let behind : c.after-rest.result.now ≡ drop c.first_line-len.result.1 c.loop-rest.rest.now = c.after-rest.ensures in
    let shorter : length c.after-rest.result.now ≡ length (drop c.first_line-len.result.1 c.loop-rest.rest.now) = ap length behind in
    let less : c.loop-rest.lines + 1 + length c.after-rest.result.now ≤ length c.args.bytes.now =
    omega (arith, c.loop-rest.invariant.0, c.first_line-len.ensures.goes, c.first_line-len.ensures.within, length-drop c.first_line-len.result.1 c.loop-rest.rest.now) in (
      less,
      ap (λ e. first_bad (c.loop-rest.lines + 1) e (items_of c.after-rest.result.now)) new
          ∙ ap (λ r. first_bad (c.loop-rest.lines + 1) (with_item (samples_in c.loop-rest.index) (item_of (take c.first_line-len.result.0 c.loop-rest.rest.now))) (items_of r)) behind
          ∙ sym (fault-next c.loop-rest.lines (samples_in c.loop-rest.index) c.loop-rest.rest.now (take c.first_line-len.result.0 c.loop-rest.rest.now)
          (drop c.first_line-len.result.1 c.loop-rest.rest.now) c.first_line-len.ensures.read none)
          ∙ c.loop-rest.invariant.1,
      ap (λ e. fold with_item e (items_of c.after-rest.result.now)) new
          ∙ ap (λ r. fold with_item (with_item (samples_in c.loop-rest.index) (item_of (take c.first_line-len.result.0 c.loop-rest.rest.now))) (items_of r)) behind
          ∙ sym (samples-next (samples_in c.loop-rest.index) c.loop-rest.rest.now (take c.first_line-len.result.0 c.loop-rest.rest.now)
          (drop c.first_line-len.result.1 c.loop-rest.rest.now) c.first_line-len.ensures.read)
          ∙ c.loop-rest.invariant.2,
      c.take.ensures.whole accepted,
    )

pub returns-clause-none : goal.returns-clause-none
returns-clause-none c =
    let none : length c.loop-rest.rest.now ≡ 0 = grind (arith, nat_tests) in
    sym c.loop-rest.invariant.1
    ∙ ap (λ r. first_bad c.loop-rest.lines (samples_in c.loop-rest.index) (items_of r)) (nothing_left c.loop-rest.rest.now none)
    ∙ fault-done c.loop-rest.lines (samples_in c.loop-rest.index)

pub returns-clause-samples : goal.returns-clause-samples
returns-clause-samples c =
    let none : length c.loop-rest.rest.now ≡ 0 = grind (arith, nat_tests) in
    sym (samples-done (samples_in c.loop-rest.index))
    ∙ ap (λ r. fold with_item (samples_in c.loop-rest.index) (items_of r)) (sym (nothing_left c.loop-rest.rest.now none))
    ∙ c.loop-rest.invariant.2
