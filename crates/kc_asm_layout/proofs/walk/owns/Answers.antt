use Rattle.std.proofs.Common.{length, ap, ◌∙◌}
use Rattle.kc_asm_symbols.specs.Located.{located_by, place_values, first_segment}
use Rattle.kc_asm_symbols.proofs.ValueLemmas.{all_values, value_count}
use Rattle.kc_asm_layout.specs.StatementSizes.{on_its_own}
use Rattle.kc_asm_layout.proofs.Steps.{own_starts, own_more}
use Rattle.kc_asm_layout.proofs.walk.owns.Goals as goal

pub loop-i-init : goal.loop-i-init
loop-i-init c = (first_segment, own_starts c.new-values.result.items c.args.stmts.now c.new-values.ensures.items)

pub loop-i-preserved : goal.loop-i-preserved
loop-i-preserved c =
    let g = c.loop-i.invariant.0 in
    own_more c.loop-i.i g c.args.stmts.now c.loop-i.values.items c.push.new.self.items c.own_place.result c.loop-i-test.true (c.own_place.ensures g) c.in_ok-push.ensures.items c.loop-i.invariant.1

pub returns-clause-values : goal.returns-clause-values
returns-clause-values c =
    all_values on_its_own c.loop-i.i c.loop-i.invariant.0 c.args.stmts.now c.loop-i.values.items (place_values (located_by on_its_own c.args.stmts.now)) c.loop-i-test.false c.loop-i.invariant.1

pub returns-clause-count : goal.returns-clause-count
returns-clause-count c = ap length (returns-clause-values c) ∙ value_count on_its_own c.args.stmts.now
