use Rattle.std.proofs.Common.{◌≡◌, None, sym, ◌∙◌}
use Rattle.kc_expr.specs.Grammar.{multiplying, adding, comparing, meeting, either}
use Rattle.kc_expr.proofs.ClimbLemmas.{binary_own, at_2, at_3, at_4, at_6, at_7, no_class}
use Rattle.kc_expr.proofs.operators.binary_of.Goals as goal

pub returns-in-Some : goal.returns-in-Some
returns-in-Some c = binary_own c.args.token.now 3 c.in-Some.op (at_3 c.args.token.now ∙ sym c.adding.ensures ∙ c.in-Some.is)

pub returns-in-Some-multiplying : goal.returns-in-Some-multiplying
returns-in-Some-multiplying c = binary_own c.args.token.now 2 c.in-Some-multiplying.op (at_2 c.args.token.now ∙ sym c.multiplying.ensures ∙ c.in-Some-multiplying.is)

pub returns-in-Some-comparing : goal.returns-in-Some-comparing
returns-in-Some-comparing c = binary_own c.args.token.now 4 c.in-Some-comparing.op (at_4 c.args.token.now ∙ sym c.comparing.ensures ∙ c.in-Some-comparing.is)

pub returns-in-Some-meeting : goal.returns-in-Some-meeting
returns-in-Some-meeting c = binary_own c.args.token.now 6 c.in-Some-meeting.op (at_6 c.args.token.now ∙ sym c.meeting.ensures ∙ c.in-Some-meeting.is)

pub returns-in-Some-either : goal.returns-in-Some-either
returns-in-Some-either c = binary_own c.args.token.now 7 c.in-Some-either.op (at_7 c.args.token.now ∙ sym c.either.ensures ∙ c.in-Some-either.is)

pub returns-in_default-either : goal.returns-in_default-either
returns-in_default-either c =
    let a : adding c.args.token.now ≡ None = sym c.adding.ensures ∙ c.in_default.is in
    let m : multiplying c.args.token.now ≡ None = sym c.multiplying.ensures ∙ c.in_default-multiplying.is in
    let o : comparing c.args.token.now ≡ None = sym c.comparing.ensures ∙ c.in_default-comparing.is in
    let b : meeting c.args.token.now ≡ None = sym c.meeting.ensures ∙ c.in_default-meeting.is in
    let e : either c.args.token.now ≡ None = sym c.either.ensures ∙ c.in_default-either.is in
    no_class c.args.token.now m a o b e
