use Rattle.std.proofs.Common.{Some, ◌∙◌, ap}
use Rattle.std.specs.Prelude.{slice_set}
use Rattle.kc_due.specs.Links.{times_of}
use Rattle.kc_due.proofs.Writes.{cleared, set_twice}
use Rattle.kc_due.proofs.list.DueList.set.Goals as goal

pub put_in-requires-clause-blank : goal.put_in-requires-clause-blank
put_in-requires-clause-blank c = cleared c.self.inside.links c.take_out.new.self c.args.slot c.requires c.self.invariant.sixteen c.take_out.ensures.times

pub returns-clause-whole : goal.returns-clause-whole
returns-clause-whole c =
    set_twice (times_of c.self.inside.links) (times_of c.take_out.new.self) (times_of c.put_in.new.self) c.args.slot (Some c.args.at) c.take_out.ensures.times c.put_in.ensures.times
    ∙ ap (λ m. slice_set m c.args.slot (Some c.args.at)) c.self.view_is
