use Rattle.std.proofs.Common.{leb, rules, arith, sym}
use Rattle.std.proofs.lemmas.List.Sorted.{IsPartitionPoint-from_clause, IsPartitionedBy-leb}
use Rattle.kc_base.proofs.SeriesLemmas.{found_none, found_last}
use Rattle.kc_convert.proofs.index.value_in.Goals as goal

pub returns-then-count-eq0 : goal.returns-then-count-eq0
returns-then-count-eq0 c =
    let parted = IsPartitionedBy-leb (λ s. s.at) c.args.own.now c.args.at c.requires in
    let point = IsPartitionPoint-from_clause (λ s. leb s.at c.args.at) _ _ c.partition_point-count.ensures.partitioned parted (λ a r q k. search rules) in
    sym (found_none (λ s. s.at) (λ s. s.value) c.args.own.now c.partition_point-count.result c.args.at 0 point (omega arith))

pub returns-else-count-eq0 : goal.returns-else-count-eq0
returns-else-count-eq0 c =
    let parted = IsPartitionedBy-leb (λ s. s.at) c.args.own.now c.args.at c.requires in
    let point = IsPartitionPoint-from_clause (λ s. leb s.at c.args.at) _ _ c.partition_point-count.ensures.partitioned parted (λ a r q k. search rules) in
    sym (found_last (λ s. s.at) (λ s. s.value) c.args.own.now c.partition_point-count.result c.args.at _ 0 point (omega arith) c.partition_point-count.ensures.bound)
