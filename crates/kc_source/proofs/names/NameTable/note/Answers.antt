use Rattle.kc_source.proofs.TableLemmas.{noted_others}
use Rattle.kc_source.proofs.names.NameTable.note.Goals as goal

pub returns-clause-others : goal.returns-clause-others
returns-clause-others c = noted_others c.args.self.now.map.entries c.insert.new.self.entries c.in_ok-key.key c.args.name.now c.in_ok-key.ensures.items c.in_ok-insert.ensures.updates.3
