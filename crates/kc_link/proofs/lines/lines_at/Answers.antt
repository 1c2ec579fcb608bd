use Rattle.std.proofs.Common.{◌≡◌, ◌∙◌}
use Rattle.kc_link_place.specs.Placing.{bases_from}
use Rattle.kc_link_place.specs.Apart.{CodeIsApart}
use Rattle.kc_link.proofs.PlacedLemmas.{was_located}
use Rattle.kc_link.proofs.LineLemmas.{all_lines_stand, is_line_map}
use Rattle.kc_link.proofs.lines.lines_at.Goals as goal

pub all_lines-requires : goal.all_lines-requires
all_lines-requires c =
    let ms = c.args.modules.now in
    let p = c.args.placement.now.places in
    let at = c.requires in
    let w = was_located ms at.ranges p at.placement.0 in
    let a : CodeIsApart ms p = c.code_stands_apart.ensures ms at.ranges p c.keep_rules.ensures at.in_bounds w.located_ok in
    rw (c.deref.ensures.value, at.placement.1) (all_lines_stand ms p c.keep_rules.ensures a)

pub returns : goal.returns
returns c =
    let ms = c.args.modules.now in
    let p = c.args.placement.now.places in
    let at = c.requires in
    let w = was_located ms at.ranges p at.placement.0 in
    let a : CodeIsApart ms p = c.code_stands_apart.ensures ms at.ranges p c.keep_rules.ensures at.in_bounds w.located_ok in
    let b : c.deref.result.now ≡ bases_from ms p 0 ms = c.deref.ensures.value ∙ at.placement.1 in
    is_line_map ms p c.deref.result.now c.in_ok-entries.entries.items c.sort.new.entries.items c.keep_rules.ensures a b c.in_ok-entries.ensures c.in_ok-sort.ensures.same c.in_ok-sort.ensures.sorted
