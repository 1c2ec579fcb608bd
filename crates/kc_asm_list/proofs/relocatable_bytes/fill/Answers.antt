use Rattle.std.proofs.Common.{sym, ap, ◌∙◌, rules, of_calls}
use Rattle.std.proofs.lemmas.Fn.{always_returns_same}
use Rattle.kc_asm_list.proofs.Sorted.{is_past, fixups_partitioned, fills_there, fill_found, no_item, one_item}
use Rattle.kc_asm_list.proofs.relocatable_bytes.fill.Goals as goal

pub returns-in-None : goal.returns-in-None
returns-in-None c =
    let p = c.args.piece in
    let o = c.args.offset in
    let fs = c.args.fixups.now in
    let at = c.partition_point-at.result in
    let point = c.partition_point-at.ensures.partitioned (is_past p o) (always_returns_same _ _ _ (λ a r f q. search (rules, of_calls))) (fixups_partitioned p o fs c.requires) in
    ap (fills_there p o) (sym (no_item fs at c.get.result c.get.ensures.lookup c.in-None.is)) ∙ fill_found p o fs at c.requires point

pub returns-in-Some : goal.returns-in-Some
returns-in-Some c =
    let p = c.args.piece in
    let o = c.args.offset in
    let fs = c.args.fixups.now in
    let at = c.partition_point-at.result in
    let point = c.partition_point-at.ensures.partitioned (is_past p o) (always_returns_same _ _ _ (λ a r f q. search (rules, of_calls))) (fixups_partitioned p o fs c.requires) in
    c.fills.ensures ∙ ap (fills_there p o) (sym (one_item fs at c.get.result c.in-Some.fixup c.get.ensures.lookup c.in-Some.is)) ∙ fill_found p o fs at c.requires point
