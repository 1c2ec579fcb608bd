use Rattle.std.proofs.Common.{◌+◌, ◌++◌, ◌∷◌, ℕ, List, drop, ap, sym, ◌∙◌}
use Rattle.std.proofs.lemmas.List.{drop_all}
use Rattle.kc_asm_symbols.specs.Meanings.{in_all}
use Rattle.kc_asm_symbols.specs.Tables.{is_marked}
use Rattle.kc_asm_symbols.proofs.ExternalLemmas.{prefix}
use Rattle.kc_asm.specs.Giving.{given_from}
use Rattle.kc_asm.proofs.publics.Publics.give_all.Goals as goal

pub loop-name-preserved : goal.loop-name-preserved
loop-name-preserved c = λ all before rest behind.
    let names = c.args.names.now in
    let i = c.loop-name.name-index in
    c.in_ok-give.ensures all before (drop (i + 1) names ++ rest) behind
    ∙ ap (λ (ns : List (List ℕ)). c.loop-name.self.items.items ++ given_from (in_all all) (is_marked c.loop-name.self.seen) (ns ++ rest))
    (ap (λ (n : List ℕ). n ∷ drop (i + 1) names) c.as_slice.ensures ∙ sym (prefix names i c.name-item.result c.loop-name-test.true c.name-item.is))
    ∙ c.loop-name.invariant all before rest behind

pub returns : goal.returns
returns c = λ all before rest behind.
    ap (λ (ns : List (List ℕ)). c.loop-name.self.items.items ++ given_from (in_all all) (is_marked c.loop-name.self.seen) (ns ++ rest))
    (sym (drop_all c.loop-name.name-index c.args.names.now c.loop-name-test.false))
    ∙ c.loop-name.invariant all before rest behind
