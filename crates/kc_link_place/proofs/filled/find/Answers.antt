use Rattle.std.proofs.Common.{◌∙◌, ap, rules, of_calls}
use Rattle.std.proofs.lemmas.Fn.{always_returns_same}
use Rattle.kc_link_place.specs.Filled.{is_before, if_there}
use Rattle.kc_link_place.proofs.Sorted.{partitioned, found_at, item_there}
use Rattle.kc_link_place.proofs.filled.find.Goals as goal

pub returns : goal.returns
returns c =
    let p = c.args.piece in
    let k = c.args.offset in
    let point = c.partition_point-at.ensures.partitioned (is_before p k) (always_returns_same _ _ _ (λ a r f q. search (rules, of_calls))) (partitioned p k c.args.fixups.now c.requires) in
    c.if_it_begins.ensures ∙ (ap (if_there p k) (item_there c.args.fixups.now c.partition_point-at.result c.get.result c.get.ensures.lookup) ∙ found_at p k c.args.fixups.now c.partition_point-at.result c.requires point)
