use Rattle.std.proofs.Common.{◌≡◌, ℕ, ◌+◌, ◌≤◌, List, length, drop, true, sym, ap, ◌∙◌, arith}
use Rattle.kc_obj.specs.declared.step.Step.{Step}
use Rattle.kc_obj_fields.specs.Fields.{word_at}
use Rattle.kc_obj.specs.Reading.{Read, Answer, fits, bodied, sized, step_answer, first_fault}
use Rattle.kc_obj.proofs.StepLemmas.{sized_on, if_ok_map}
use Rattle.kc_obj.proofs.decoding.length_step.Goals as goal

pub returns-then-length_fits-clause-step : goal.returns-then-length_fits-clause-step
returns-then-length_fits-clause-step c =
    let file = c.args.file.now in
    let rest = drop 1 (drop c.args.at file) in
    let rest_is : c.after-rest.result.now ≡ drop 1 (drop c.args.at file) = c.after-rest.ensures ∙ ap (drop 1) c.after.ensures in
    let more : 2 ≤ length (drop 1 (drop c.args.at file)) = omega (arith, ap length rest_is) in
    let len_is : c.word-len.result ≡ word_at (drop 1 (drop c.args.at file)) 0 = c.word-len.ensures ∙ ap (λ (t : List ℕ). word_at t 0) rest_is in
    let body_is : c.after-2.result.now ≡ drop 2 (drop 1 (drop c.args.at file)) = c.after-2.ensures ∙ ap (drop 2) rest_is in
    let fit : fits c.args.kind (word_at (drop 1 (drop c.args.at file)) 0) (drop 2 (drop 1 (drop c.args.at file))) ≡ true = (λ i. fits c.args.kind (sym len_is i) (sym body_is i)) ∙ sym c.length_fits.ensures ∙ c.if-length_fits.true in
    let now = c.body_step.new.reading in
    if_ok_map c.body_step.result
    (λ (s : Step). (goes_on : ℕ → Read → Answer) → bodied first_fault goes_on file (c.args.at + 3) c.args.kind c.word-len.result (drop (c.args.at + 3) file) c.args.reading.now ≡ step_answer goes_on s now)
    (λ (s : Step). (goes_on : ℕ → Read → Answer) → sized first_fault goes_on file c.args.at c.args.kind rest c.args.reading.now ≡ step_answer goes_on s now)
    (λ s h goes_on. sized_on file c.args.at c.args.kind c.word-len.result c.args.reading.now more fit len_is goes_on ∙ h goes_on)
    c.body_step.ensures.step
