use Rattle.std.proofs.Common.{◌≡◌, ◌+◌, ◌∷◌, List, ℕ, drop, get_or, refl, sym, ap, subst, ◌∙◌, arith}
use Rattle.std.specs.Prelude.{None}
use Rattle.kc_expr.specs.declared.values.Base.TheVariants.{Fixed}
use Rattle.kc_expr.specs.declared.values.Tag.TheVariants.{Register}
use Rattle.kc_expr.specs.declared.values.Value.{Value}
use Rattle.kc_expr.specs.Meaning.{Answer, plain}
use Rattle.kc_source_statement.specs.declared.statement.Stmt.{Stmt}
use Rattle.kc_asm_symbols.specs.Tables.{answers, label_number}
use Rattle.kc_asm_symbols.specs.Walk.{shared}
use Rattle.kc_asm_symbols.specs.Located.{located_by, listed}
use Rattle.kc_asm_symbols.specs.Meanings.{label_answer, with_label}
use Rattle.kc_asm_symbols.proofs.ExternalLemmas.{prefix}
use Rattle.kc_asm_symbols.proofs.ValueLemmas.{any_default, one_of}
use Rattle.kc_asm_symbols.proofs.EarlierLemmas.{cleaned, Labelling, labels_start, label_more, clean_more, all_labels}
use Rattle.kc_asm_symbols.proofs.earlier.label_table.Goals as goal

pub loop-i-init : goal.loop-i-init
loop-i-init c =
    let numbers = (shared c.args.names.now).numbers in
    let empty = c.in_ok-table.ensures.nothing numbers in
    record {
      clean = λ q. subst (λ (f : List ℕ → Answer). cleaned (f q) ≡ f q) (sym empty) refl;
      labels = labels_start c.args.values.now c.args.stmts.now (answers numbers c.in_ok-table.table) empty;
    }

pub loop-i-preserved : goal.loop-i-preserved
loop-i-preserved c =
    let stmts = c.args.stmts.now in
    let values = c.args.values.now in
    let numbers = (shared c.args.names.now).numbers in
    let i = c.loop-i.i in
    let s = c.index-stmts-i.result in
    let absent : Value = record { base = Fixed; tag = Register; number = 0 } in
    let v = get_or values i absent in
    let look = answers numbers c.loop-i.table in
    let next = answers numbers c.set_label.new.table in
    let all = label_answer (located_by (listed values) stmts) in
    let split : drop i stmts ≡ s ∷ drop (i + 1) stmts = prefix stmts i s c.loop-i-test.true c.index-stmts-i.is in
    let value : v ≡ get_or values i (plain 0) = any_default values i absent (plain 0) (omega (arith, c.requires.values, c.loop-i-test.true)) in
    let number : c.label.result ≡ label_number numbers s.label
    = c.label.ensures ∙ ap (λ ls. get_or ls i None) c.requires.names.labels ∙ one_of (λ s. label_number numbers s.label) stmts i None s c.loop-i-test.true c.index-stmts-i.is in
    let grown : next ≡ with_label s.label v look = c.in_ok-set_label.ensures numbers number in
    record {
      clean = clean_more s.label v look next grown c.loop-i.invariant.clean;
      labels = label_more values i v s (drop (i + 1) stmts) look next all value grown
          (subst (λ (ss : List Stmt). Labelling values i ss look all) split c.loop-i.invariant.labels);
    }

pub returns : goal.returns
returns c =
    let values = c.args.values.now in
    all_labels values c.loop-i.i c.args.stmts.now (answers (shared c.args.names.now).numbers c.loop-i.table) (label_answer (located_by (listed values) c.args.stmts.now)) c.loop-i-test.false c.loop-i.invariant.clean
    c.loop-i.invariant.labels
