use Rattle.std.proofs.Common.{subst}
use Rattle.kc_due.specs.Due.{IsFirst}
use Rattle.kc_block_units.proofs.NextDue.{first_up_to, first_is_due, none_is_due}
use Rattle.kc_block_units.specs.Standing.{standing}
use Rattle.kc_block_units.proofs.scheduler.Scheduler.next.Goals as goal

pub returns-in-Some-clause-up_to : goal.returns-in-Some-clause-up_to
returns-in-Some-clause-up_to g c = λ now is.
    first_up_to g.X.Extra.further g.X.Extra.agrees (record { rests = g.met.X.Extra.rests; rests_out = g.met.X.Extra.rests_out; rest_keeps = g.met.X.Extra.rest_keeps; keeps = g.met.X.Extra.keeps; start_keeps = g.met.X.Extra.start_keeps }) (standing g.X.Extra.plain c.args.self.now) c.in-Some.field-0-0 c.in-Some.at
    (subst (IsFirst c.args.self.now.due) c.in-Some.is c.first.ensures)

pub returns-in-Some-clause-due : goal.returns-in-Some-clause-due
returns-in-Some-clause-due g c = λ now is.
    first_is_due g.X.Extra.further g.X.Extra.agrees (record { rests = g.met.X.Extra.rests; rests_out = g.met.X.Extra.rests_out; rest_keeps = g.met.X.Extra.rest_keeps; keeps = g.met.X.Extra.keeps; start_keeps = g.met.X.Extra.start_keeps }) (standing g.X.Extra.plain c.args.self.now) now c.in-Some.field-0-0 c.in-Some.at is
    (subst (IsFirst c.args.self.now.due) c.in-Some.is c.first.ensures)

pub returns-in-None-clause-due : goal.returns-in-None-clause-due
returns-in-None-clause-due g c = λ now is.
    none_is_due g.X.Extra.further g.X.Extra.agrees (record { rests = g.met.X.Extra.rests; rests_out = g.met.X.Extra.rests_out; rest_keeps = g.met.X.Extra.rest_keeps; keeps = g.met.X.Extra.keeps; start_keeps = g.met.X.Extra.start_keeps }) (standing g.X.Extra.plain c.args.self.now) now is (subst (IsFirst c.args.self.now.due) c.in-None.is c.first.ensures)
