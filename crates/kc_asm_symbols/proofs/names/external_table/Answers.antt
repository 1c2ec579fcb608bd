use Rattle.std.proofs.Common.{◌-◌, ap, ◌∙◌, arith}
use Rattle.std.specs.Prelude.{Ok}
use Rattle.kc_expr.specs.declared.values.Base.TheVariants.{External}
use Rattle.kc_expr.specs.declared.values.Value.{Value}
use Rattle.kc_asm_symbols.specs.Tables.{answers, updated}
use Rattle.kc_asm_symbols.proofs.EarlierLemmas.{no_externals, external_more}
use Rattle.kc_asm_symbols.proofs.names.external_table.Goals as goal

pub loop-left-init : goal.loop-left-init
loop-left-init c = record { within = omega arith; table = no_externals c.args.taken.now (answers c.args.numbers.now c.in_ok-table.table) (c.in_ok-table.ensures.nothing c.args.numbers.now) }

pub loop-left-preserved : goal.loop-left-preserved
loop-left-preserved c =
    let numbers = c.args.numbers.now in
    let left = c.loop-left.left in
    let t = c.index-taken-left.result in
    let v : Value = record { base = External (left - 1); tag = c.tag_of.result; number = 0 } in
    record {
      within = omega arith;
      table = external_more c.args.taken.now left (left - 1) t v (answers numbers c.loop-left.table) (answers numbers c.set.new.self) (omega arith) (omega arith) c.index-taken-left.is
          (λ j. record { base = External (left - 1); tag = c.tag_of.ensures j; number = 0 }) c.loop-left.invariant.table
          (c.in_ok-set.ensures numbers c.number.ensures ∙ ap (λ n. updated n (Ok v) (answers numbers c.loop-left.table)) c.as_slice-name.ensures);
    }
