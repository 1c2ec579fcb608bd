use Rattle.std.proofs.Common.{◌≡◌, map}
use Rattle.kc_asm_section.specs.Order.{number_of}
use Rattle.kc_asm_section.specs.Publics.{given_of}
use Rattle.kc_asm_section.proofs.Sorting.{sorted_publics}
use Rattle.kc_asm_section.proofs.publics.publics_of.Goals as goal

pub returns-clause-sorted : goal.returns-clause-sorted
returns-clause-sorted c =
    let made : c.in_ok-givens.givens.items ≡ map (given_of (number_of c.args.kept)) c.args.publics.items = c.in_ok-givens.ensures in
    sorted_publics (number_of c.args.kept) c.args.publics.items c.sort_by_name.new.givens.items c.requires (rw made at c.in_ok-sort_by_name.ensures.same) c.in_ok-sort_by_name.ensures.sorted
