use Rattle.std.proofs.Common.{◌≡◌, ◌+◌, ◌∷◌, List, drop, get_or, refl, subst, ◌∙◌, arith}
use Rattle.kc_expr.specs.declared.values.Base.TheVariants.{Fixed}
use Rattle.kc_expr.specs.declared.values.Tag.TheVariants.{Register}
use Rattle.kc_expr.specs.declared.values.Value.{Value}
use Rattle.kc_expr.specs.Meaning.{plain}
use Rattle.kc_source_statement.specs.declared.statement.Stmt.{Stmt}
use Rattle.kc_source_statement.specs.Trees.{action_tree}
use Rattle.kc_asm_symbols.specs.Tables.{answers}
use Rattle.kc_asm_symbols.specs.Located.{located_by, listed}
use Rattle.kc_asm_symbols.specs.Meanings.{behind}
use Rattle.kc_asm_symbols.specs.Walk.{shared}
use Rattle.kc_asm_symbols.proofs.ExternalLemmas.{prefix}
use Rattle.kc_asm_symbols.proofs.ValueLemmas.{any_default}
use Rattle.kc_asm_symbols.proofs.WalkLemmas.{Walking, walk_starts, walks, walked}
use Rattle.kc_asm_symbols.proofs.meanings.through.Goals as goal

pub loop-i-init : goal.loop-i-init
loop-i-init c = record { names = refl; walking = walk_starts c.args.earlier c.args.values.now c.args.stmts.now c.requires.earlier }

pub loop-i-preserved : goal.loop-i-preserved
loop-i-preserved c =
    let stmts = c.args.stmts.now in
    let values = c.args.values.now in
    let i = c.loop-i.i in
    let s = c.index-stmts-i.result in
    let absent : Value = record { base = Fixed; tag = Register; number = 0 } in
    let v = get_or values i absent in
    let all = located_by (listed values) stmts in
    let e = c.loop-i.earlier in
    let f = c.leave.new.self in
    let a = action_tree s.action in
    let split : drop i stmts ≡ s ∷ drop (i + 1) stmts = prefix stmts i s c.loop-i-test.true c.index-stmts-i.is in
    let value : v ≡ get_or values i (plain 0) = any_default values i absent (plain 0) (omega (arith, c.requires.values, c.loop-i-test.true)) in
    let names : f.names ≡ e.names = c.in_ok-leave.ensures.names ∙ c.enter.ensures.names in
    let latest : answers (shared f.names).numbers f.latest ≡ behind (answers (shared e.names).numbers (shared e.names).taken) a v (answers (shared e.names).numbers e.latest)
    = c.in_ok-leave.ensures.latest
    ∙ (λ j. let n = c.enter.ensures.names j in behind (answers (shared n).numbers (shared n).taken) a (c.enter.ensures.here j) (answers (shared n).numbers (c.enter.ensures.latest j))) in
    record {
      names = names ∙ c.loop-i.invariant.names;
      walking = walks e f values all i v s (drop (i + 1) stmts) value names latest (subst (λ (ss : List Stmt). Walking e values all i ss) split c.loop-i.invariant.walking);
    }

pub returns-clause-earlier : goal.returns-clause-earlier
returns-clause-earlier c = walked c.loop-i.earlier c.args.values.now c.loop-i.i c.args.stmts.now (located_by (listed c.args.values.now) c.args.stmts.now) c.loop-i-test.false c.loop-i.invariant.walking
