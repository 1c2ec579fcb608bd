use Rattle.std.proofs.Common.{◌≡◌, ◌+◌, true, cond, drop, Some, sym, ap, ◌∙◌}
use Rattle.kc_asm_symbols.specs.Meanings.{in_all}
use Rattle.kc_asm_check.specs.Codes.{counts_from_external}
use Rattle.kc_asm_origin.specs.Values.{foreign_among}
use Rattle.kc_asm_origin.proofs.Walks.{name, names}
use Rattle.kc_asm_origin.proofs.values.foreign.Goals as goal

pub returns-then-is_foreign : goal.returns-then-is_foreign
returns-then-is_foreign c = λ all before behind.
    let n = c.name-item.result in
    let rest = foreign_among (in_all all) (drop (c.loop-name.name-index + 1) c.args.names.now) in
    let means : c.last.result ≡ in_all all n = c.last.ensures all before behind ∙ ap (in_all all) c.as_slice-bytes.ensures in
    let counts : true ≡ counts_from_external (in_all all n) = sym c.if-is_foreign.true ∙ c.is_foreign.ensures ∙ ap counts_from_external means in
    ap Some (c.in_ok-reported.ensures ∙ c.as_slice-bytes.ensures) ∙ ap (λ b. cond b (Some n) rest) counts
    ∙ name (in_all all) c.args.names.now c.loop-name.name-index n c.loop-name-test.true c.name-item.is (c.loop-name.invariant all before behind)

pub loop-name-preserved : goal.loop-name-preserved
loop-name-preserved c = λ all before behind.
    let n = c.name-item.result in
    let rest = foreign_among (in_all all) (drop (c.loop-name.name-index + 1) c.args.names.now) in
    let means : c.last.result ≡ in_all all n = c.last.ensures all before behind ∙ ap (in_all all) c.as_slice-bytes.ensures in
    ap (λ b. cond b (Some n) rest) (sym c.if-is_foreign.false ∙ c.is_foreign.ensures ∙ ap counts_from_external means)
    ∙ name (in_all all) c.args.names.now c.loop-name.name-index n c.loop-name-test.true c.name-item.is (c.loop-name.invariant all before behind)

pub returns : goal.returns
returns c = λ all before behind. names (in_all all) c.args.names.now c.loop-name.name-index c.loop-name-test.false (c.loop-name.invariant all before behind)
