use Rattle.std.proofs.Common.{◌∙◌, Some, sym}
use Rattle.kc_due.specs.Links.{node_of}
use Rattle.kc_due.proofs.Orders.{last_in, next_fits, put, put_in}
use Rattle.kc_due.proofs.Writes.{set_time}
use Rattle.kc_due.proofs.links.Links.put_in.Goals as goal

pub join-requires-2-clause-later : goal.join-requires-2-clause-later
join-requires-2-clause-later c =
    next_fits c.args.self.now c.before-earlier.result c.requires.linked (last_in c.args.self.now _ c.before-earlier.result c.before-earlier.ensures) _ (sym c.following-later.ensures)

pub returns-clause-linked : goal.returns-clause-linked
returns-clause-linked c =
    put_in c.args.self.now c.args.slot c.args.at c.before-earlier.result c.join-2.new.self c.requires.linked c.requires.slot c.requires.blank c.before-earlier.ensures
    (put c.args.self.now c.join.new.self c.join-2.new.self c.args.slot c.args.at c.before-earlier.result c.following-later.result c.requires.linked c.requires.slot c.requires.blank
    c.before-earlier.ensures c.following-later.ensures c.join.ensures c.join-2.ensures)

pub returns-clause-times : goal.returns-clause-times
returns-clause-times c = c.join-2.ensures.times ∙ c.join.ensures.times ∙ set_time c.args.self.now c.args.slot (Some c.args.at) (node_of c.args.self.now c.args.slot).previous (node_of c.args.self.now c.args.slot).next c.args.self.now.head
