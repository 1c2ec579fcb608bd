use Rattle.std.proofs.Common.{◌≡◌, ℕ, List, length, sym, ap, ◌∙◌, arith}
use Rattle.kc_asm_symbols.specs.Located.{located, located_by, place_values}
use Rattle.std.specs.Prelude.{slice_index}
use Rattle.kc_asm_symbols.specs.Externals.{externals}
use Rattle.kc_asm_layout.specs.StatementSizes.{at_zero}
use Rattle.kc_asm_origin.proofs.Walks.{zero_values}
use Rattle.kc_asm_origin.proofs.values.meanings_of.Goals as goal

pub new-requires-clause-taken : goal.new-requires-clause-taken
new-requires-clause-taken c = λ values. c.deref-2.ensures.value ∙ c.in_ok-taken.ensures values

pub new-requires-clause-few : goal.new-requires-clause-few
new-requires-clause-few c =
    let count : length c.deref-2.result.now ≡ length (externals (located_by at_zero c.args.stmts.now)) = ap length (c.deref-2.ensures.value ∙ c.in_ok-taken.ensures at_zero) in
    omega (arith, count, c.requires)

pub returns : goal.returns
returns c =
    let stmts = c.args.stmts.now in
    c.in_ok-meanings.ensures at_zero
    (sym (c.deref-3.ensures.value ∙ c.in_ok-values.ensures.values ∙ ap (λ (zs : List ℕ). place_values (located (slice_index zs) stmts)) c.deref.ensures.value
    ∙ zero_values stmts c.in_ok-zeros.zeros.items (length stmts) (c.in_ok-zeros.ensures.items_if_clones_equal (λ y e. e))))
