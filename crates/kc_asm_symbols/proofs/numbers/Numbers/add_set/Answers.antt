use Rattle.std.specs.Prelude.{true, false}
use Rattle.kc_asm_symbols.proofs.TableLemmas.{one_set}
use Rattle.kc_asm_symbols.proofs.numbers.Numbers.add_set.Goals as goal

pub returns : goal.returns
returns c = one_set false true c.args.self.now.map.entries c.insert.new.self.entries c.in_ok-key.key c.args.name.now c.in_ok-key.ensures.items c.in_ok-insert.ensures.updates.1 c.in_ok-insert.ensures.updates.3
