use Rattle.std.proofs.Common.{◌≡◌, List, [], reverse, length, ap, subst, sym, ◌∙◌, arith}
use Rattle.kc_asm_symbols.specs.Located.{located, value_at}
use Rattle.kc_asm_symbols.specs.Walk.{IsBehind}
use Rattle.kc_asm_layout.specs.declared.location.Location.{Location}
use Rattle.kc_asm_check.specs.Checking.{place_at, location_list}
use Rattle.kc_asm_check.specs.Putting.{puts_from, stack_from}
use Rattle.kc_asm_check.proofs.CountLemmas.{each_location}
use Rattle.kc_asm_check.proofs.WalkLemmas.{whole_of}
use Rattle.kc_asm_check.proofs.checking.check.Goals as goal

pub pass-requires-clause-each : goal.pass-requires-clause-each
pass-requires-clause-each c =
    let laid : length c.args.locations.now ≡ length (location_list c.args.stmts.now) = ap length c.requires.locations in
    let each : length (location_list c.args.stmts.now) ≡ length c.args.stmts.now = each_location c.sizes_have_lengths.ensures c.args.stmts.now in
    omega (arith, laid, each)

pub pass-requires-clause-behind : goal.pass-requires-clause-behind
pass-requires-clause-behind c =
    c.in_ok-meanings.ensures (λ i g. value_at g (place_at c.args.locations.now i)) (sym (c.deref.ensures.value ∙ c.in_ok-values.ensures.values))

pub examined-requires-clause-found : goal.examined-requires-clause-found
examined-requires-clause-found c =
    whole_of c.args.stmts.now c.args.locations.now c.in_ok-regions.regions.items _ c.requires.locations c.in_ok-regions.ensures c.in_ok-pass.ensures.found

pub examined-requires-clause-puts : goal.examined-requires-clause-puts
examined-requires-clause-puts c =
    let stmts = c.args.stmts.now in
    c.in_ok-pass.ensures.puts
    ∙ ap (λ (ss : List Location). puts_from (located (place_at ss) stmts) [] (located (place_at ss) stmts) ss) c.requires.locations

pub examined-requires-clause-stack : goal.examined-requires-clause-stack
examined-requires-clause-stack c =
    let stmts = c.args.stmts.now in
    c.in_ok-pass.ensures.sum
    ∙ ap (λ (ss : List Location). stack_from (located (place_at ss) stmts) 0 [] (located (place_at ss) stmts)) c.requires.locations

pub examined-requires-clause-meanings : goal.examined-requires-clause-meanings
examined-requires-clause-meanings c =
    let stmts = c.args.stmts.now in
    subst (λ (ss : List Location). IsBehind c.pass.new.self.meanings (located (place_at ss) stmts) (reverse (located (place_at ss) stmts))) c.requires.locations
    c.in_ok-pass.ensures.behind

pub examined-requires-clause-each : goal.examined-requires-clause-each
examined-requires-clause-each c =
    let each : length (location_list c.args.stmts.now) ≡ length c.args.stmts.now = each_location c.sizes_have_lengths.ensures c.args.stmts.now in
    omega (arith, each)
