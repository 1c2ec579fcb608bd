use Rattle.std.proofs.Common.{◌≡◌, List, [], false, sym, ap, subst, ◌∙◌}
use Rattle.kc_asm_symbols.specs.Located.{Located, listed}
use Rattle.kc_asm_symbols.specs.Tables.{answers, is_defined_by_set}
use Rattle.kc_asm_symbols.specs.Walk.{shared, IsBehind}
use Rattle.kc_asm_symbols.proofs.ValueLemmas.{located_listed}
use Rattle.kc_asm_symbols.proofs.meanings.Meanings.new.Goals as goal

pub returns : goal.returns
returns c = λ at same.
    let values = c.args.values.now in
    let stmts = c.args.stmts.now in
    let names = c.args.names.now in
    let first = c.in_ok-first.first in
    let e = c.in_ok-earlier.earlier in
    let last = c.in_ok-through.through.latest in
    let of_last : shared e.names ≡ shared c.in_ok-through.through.names
    = c.in_ok-earlier.ensures.names ∙ sym (ap shared c.in_ok-through.ensures.names ∙ c.in_ok-first.ensures.names) in
    subst (λ (all : List Located). IsBehind (record { earlier = e; last = last; defines = false }) all [])
    (located_listed at values stmts c.requires.values same)
    (record {
      earlier = c.in_ok-earlier.ensures.earlier;
      last = ap (λ n. answers n.numbers last) of_last ∙ c.in_ok-through.ensures.earlier.latest;
      set = ap (λ n. is_defined_by_set n.numbers) c.in_ok-earlier.ensures.names ∙ c.requires.names.set (listed values);
    })
