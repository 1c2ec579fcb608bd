use Rattle.std.proofs.Common.{sym, ap, ◌∙◌, rules, of_calls}
use Rattle.std.proofs.lemmas.Fn.{always_returns_same}
use Rattle.kc_obj_module.specs.Contents.{is_over}
use Rattle.kc_asm_list.proofs.Sorted.{runs_partitioned, byte_there, byte_found, no_item, one_item}
use Rattle.kc_asm_list.proofs.relocatable_bytes.content_at.Goals as goal

pub returns-in-None : goal.returns-in-None
returns-in-None c =
    let p = c.args.piece in
    let o = c.args.offset in
    let cs = c.args.contents.now in
    let at = c.partition_point-at.result in
    let point = c.partition_point-at.ensures.partitioned (λ run. is_over run p o) (always_returns_same _ _ _ (λ a r f q. search (rules, of_calls))) (runs_partitioned p o cs c.requires) in
    ap (byte_there p o) (sym (no_item cs at c.get.result c.get.ensures.lookup c.in-None.is)) ∙ byte_found p o cs at c.requires point

pub returns-in-Some : goal.returns-in-Some
returns-in-Some c =
    let p = c.args.piece in
    let o = c.args.offset in
    let cs = c.args.contents.now in
    let at = c.partition_point-at.result in
    let point = c.partition_point-at.ensures.partitioned (λ run. is_over run p o) (always_returns_same _ _ _ (λ a r f q. search (rules, of_calls))) (runs_partitioned p o cs c.requires) in
    c.byte_of.ensures ∙ ap (byte_there p o) (sym (one_item cs at c.get.result c.in-Some.content c.get.ensures.lookup c.in-Some.is)) ∙ byte_found p o cs at c.requires point
