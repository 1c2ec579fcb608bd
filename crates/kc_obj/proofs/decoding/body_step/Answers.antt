use Rattle.std.proofs.Common.{List, ℕ, length, take, ap, ◌∙◌, arith}
use Rattle.kc_obj.specs.Reading.{after_record}
use Rattle.kc_obj.proofs.StepLemmas.{goes_behind}
use Rattle.kc_obj.proofs.decoding.body_step.Goals as goal
use Rattle.kc_obj_fields.specs.Fields.{noted}

pub returns-else-kind-eq127-clause-step : goal.returns-else-kind-eq127-clause-step
returns-else-kind-eq127-clause-step c =
    let file = c.args.file.now in
    let is = c.in_ok-take_record-2.ensures ∙ ap (λ (b : List ℕ). after_record noted c.args.kind c.args.at c.args.len file b c.args.reading.now) (c.prefix.ensures ∙ ap (take c.args.len) c.after-body.ensures) in
    goes_behind file c.args.at c.args.kind c.args.len c.args.reading.now c.take_record-2.new.self (omega (arith, ap length c.after-body.ensures)) c.if-kind-eq127.false is

pub returns-then-kind-eq127-clause-within : goal.returns-then-kind-eq127-clause-within
returns-then-kind-eq127-clause-within c = c.end_step.ensures.within (length c.args.file.now)
