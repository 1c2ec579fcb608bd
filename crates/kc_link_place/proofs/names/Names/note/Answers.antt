use Rattle.std.proofs.Common.{◌≡◌, None, rules}
use Rattle.kc_base.proofs.NameLemmas.{noted}
use Rattle.kc_link_place.specs.Names.{found_in}
use Rattle.kc_link_place.proofs.names.Names.note.Goals as goal

pub returns-in_ok-insert : goal.returns-in_ok-insert
returns-in_ok-insert c =
    let none : found_in c.args.self.now.defining_modules.entries c.args.name.now ≡ None = search rules in
    noted c.args.self.now.defining_modules.entries c.insert.new.self.entries c.in_ok-key.key c.args.name.now c.args.defining c.in_ok-key.ensures.items none c.in_ok-insert.ensures.updates.1 c.in_ok-insert.ensures.updates.3
