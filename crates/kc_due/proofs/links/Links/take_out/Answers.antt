use Rattle.std.proofs.Common.{◌∙◌, Some, None, sym, refl}
use Rattle.kc_due.specs.Links.{IsIn, node_of}
use Rattle.kc_due.proofs.Orders.{next_fits, taken, taken_out}
use Rattle.kc_due.proofs.Writes.{set_time, time_gone, none_of}
use Rattle.kc_due.proofs.links.Links.take_out.Goals as goal

pub join-requires-clause-later : goal.join-requires-clause-later
join-requires-clause-later c = next_fits c.args.self.now (Some c.args.slot) c.requires.linked (c.requires.slot, sym c.is_some.ensures ∙ c.if-is_some.true) _ refl

pub returns-then-is_some-clause-linked : goal.returns-then-is_some-clause-linked
returns-then-is_some-clause-linked c =
    let here : IsIn c.args.self.now c.args.slot = (c.requires.slot, sym c.is_some.ensures ∙ c.if-is_some.true) in
    taken_out c.args.self.now c.args.slot c.join.new.self c.requires.linked here (taken c.args.self.now c.join.new.self c.args.slot c.requires.linked here c.join.ensures)

pub returns-then-is_some-clause-times : goal.returns-then-is_some-clause-times
returns-then-is_some-clause-times c = c.join.ensures.times ∙ set_time c.args.self.now c.args.slot None (node_of c.args.self.now c.args.slot).previous (node_of c.args.self.now c.args.slot).next c.args.self.now.head

pub returns-else-is_some-clause-times : goal.returns-else-is_some-clause-times
returns-else-is_some-clause-times c = time_gone c.args.self.now c.args.slot (none_of (node_of c.args.self.now c.args.slot).at (sym c.is_some.ensures ∙ c.if-is_some.false))
