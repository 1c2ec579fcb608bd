use Rattle.std.proofs.Common.{◌≡◌, List, [], reverse, length, ap, sym, ◌∙◌, arith}
use Rattle.kc_asm_symbols.specs.Located.{located, value_at}
use Rattle.kc_asm_layout.specs.declared.location.Location.{Location}
use Rattle.kc_asm_check.specs.Checking.{place_at, location_list, standing}
use Rattle.kc_asm_check.specs.Putting.{puts_from}
use Rattle.kc_asm_check.proofs.CountLemmas.{each_location, each_put}
use Rattle.kc_asm_unlinked_laws.specs.Collecting.{parts_from}
use Rattle.kc_asm.proofs.collecting.collected.Goals as goal

pub write_all-requires-clause-each : goal.write_all-requires-clause-each
write_all-requires-clause-each c =
    let laid : length c.args.locations.now ≡ length (location_list c.args.stmts.now) = ap length c.requires.locations in
    let each : length (location_list c.args.stmts.now) ≡ length c.args.stmts.now = each_location c.sizes_have_lengths.ensures c.args.stmts.now in
    omega (arith, laid, each)

pub write_all-requires-clause-each_put : goal.write_all-requires-clause-each_put
write_all-requires-clause-each_put c = each_put c.sizes_have_lengths.ensures c.args.stmts.now c.args.checked.puts.items c.requires.checked.puts

pub write_all-requires-clause-puts : goal.write_all-requires-clause-puts
write_all-requires-clause-puts c =
    let stmts = c.args.stmts.now in
    c.requires.checked.puts
    ∙ ap (λ (ss : List Location). puts_from (located (place_at ss) stmts) [] (located (place_at ss) stmts) ss) (sym c.requires.locations)

-- field by field, so that an unlinked module with one field wrong is refused at once
pub returns : goal.returns
returns c =
    let stmts = c.args.stmts.now in
    let laid = c.requires.locations in
    let begun = c.in_ok-first_parts.ensures in
    record {
      name = c.in_ok-name.ensures ∙ c.name_of.ensures (place_at (location_list stmts));
      parts = c.in_ok-write_all.ensures
          ∙ (λ i. parts_from (located (place_at (laid i)) stmts) [] (located (place_at (laid i)) stmts) (laid i) (begun i));
      stack = c.requires.checked.stack;
      externals = c.requires.taken;
      publics = c.in_ok-publics.ensures (standing stmts) (reverse (standing stmts)) c.requires.checked.meanings (λ i g. value_at g (place_at (location_list stmts) i));
    }
