use Rattle.std.proofs.Common.{◌≤◌, ◌<◌, ◌+◌, arith}
use Rattle.std.proofs.lemmas.Bool.Decides.{nat_tests}
use Rattle.kc_convert.proofs.ConverterSpans.{conversion_due, past_due, never_due}
use Rattle.kc_convert.proofs.converter.ConverterExtra.due.Goals as goal

pub returns-in-Some-clause-due : goal.returns-in-Some-clause-due
returns-in-Some-clause-due g c =
    let le : c.args.now ≤ c.in-Some.start + 80 = grind (arith, nat_tests) in
    rw (← c.self.view_is) (conversion_due c.args.now c.in-Some.start _ c.in-Some.is le)

pub returns-in_default-clause-due : goal.returns-in_default-clause-due
returns-in_default-clause-due g c =
    let past : c.in-Some.start + 80 < c.args.now = grind (arith, nat_tests) in
    rw (← c.self.view_is) (past_due c.args.now c.in-Some.start _ c.in-Some.is past)

pub returns-in_default-2-clause-due : goal.returns-in_default-2-clause-due
returns-in_default-2-clause-due g c = rw (← c.self.view_is) (never_due c.args.now _ c.in_default.is)
