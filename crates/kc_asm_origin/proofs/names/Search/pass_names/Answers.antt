use Rattle.std.proofs.Common.{◌+◌, ◌∷◌, ◌++◌, drop, sym, subst}
use Rattle.std.specs.Prelude.{map}
use Rattle.std.proofs.Math.ListN.{drop_of_length-le}
use Rattle.kc_source.specs.Faults.{use_of}
use Rattle.kc_asm_symbols.proofs.ExternalLemmas.{prefix}
use Rattle.kc_asm_origin.specs.Seeking.{IsSeeking}
use Rattle.kc_asm_origin.proofs.names.Search.pass_names.Goals as goal

pub loop-name-init : goal.loop-name-init
loop-name-init c = λ line code all rest whole r. r

pub loop-name-preserved : goal.loop-name-preserved
loop-name-preserved c = λ line code all rest whole r.
    let names = c.args.names.now in
    let i = c.loop-name.name-index in
    let split = prefix names i c.name-item.result c.loop-name-test.true c.name-item.is in
    let so_far = subst (λ ns. IsSeeking c.loop-name.self line code all (map (use_of c.args.at c.args.kind) ns ++ rest) whole) split (c.loop-name.invariant line code all rest whole r) in
    c.in_ok-pass_use.ensures line code all (map (use_of c.args.at c.args.kind) (drop (i + 1) names) ++ rest) whole
    (subst (λ n. IsSeeking c.loop-name.self line code all (use_of c.args.at c.args.kind n ∷ map (use_of c.args.at c.args.kind) (drop (i + 1) names) ++ rest) whole) (λ j. sym c.as_slice.ensures j) so_far)

pub returns : goal.returns
returns c = λ line code all rest whole r.
    subst (λ ns. IsSeeking c.loop-name.self line code all (map (use_of c.args.at c.args.kind) ns ++ rest) whole) (drop_of_length-le c.args.names.now c.loop-name-test.false) (c.loop-name.invariant line code all rest whole r)
