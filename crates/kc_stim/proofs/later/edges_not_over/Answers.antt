use Rattle.std.proofs.Common.{◌-◌, ltb, length, drop, rules, arith, sym, ◌∙◌, take_all}
use Rattle.std.proofs.lemmas.List.{length-drop}
use Rattle.std.proofs.lemmas.List.Sorted.{IsPartitionPoint-from_clause, IsPartitionedBy-ltb}
use Rattle.kc_stim.proofs.Found.{found_rest}
use Rattle.kc_stim.proofs.later.edges_not_over.Goals as goal

pub returns : goal.returns
returns c =
    let parted = IsPartitionedBy-ltb (λ e. e) c.args.edges.now c.args.at c.requires in
    let point = IsPartitionPoint-from_clause (λ e. ltb e c.args.at) _ _ c.partition_point-first.ensures.partitioned parted (λ a r q k. search rules) in
    take_all (length c.args.edges.now - c.partition_point-first.result) (drop c.partition_point-first.result c.args.edges.now) (omega (arith, length-drop c.partition_point-first.result c.args.edges.now))
    ∙ sym (found_rest (λ e. e) c.args.edges.now c.partition_point-first.result c.args.at point)
