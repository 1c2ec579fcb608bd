use Rattle.std.specs.Prelude.{Err}
use Rattle.kc_lex.specs.declared.fault.SourceCode.TheVariants.{NotDefined}
use Rattle.kc_expr.specs.declared.values.NoValue.TheVariants.{Fault}
use Rattle.kc_asm_symbols.proofs.TableLemmas.{one_set}
use Rattle.kc_asm_symbols.proofs.table.Table.set_other.Goals as goal

pub returns-clause-others : goal.returns-clause-others
returns-clause-others c = one_set (Err (Fault NotDefined)) c.args.answer c.args.self.now.others.entries c.insert.new.self.entries c.in_ok-key.key c.args.name.now c.in_ok-key.ensures.items c.in_ok-insert.ensures.updates.1 c.in_ok-insert.ensures.updates.3
