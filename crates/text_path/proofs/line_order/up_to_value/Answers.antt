use Rattle.std.proofs.Common.{leb, rules}
use Rattle.std.proofs.lemmas.List.Sorted.{IsPartitionPoint-from_clause, IsPartitionedBy-leb}
use Rattle.text_path.proofs.PathOrderLemmas.{prefix_is}
use Rattle.text_path.proofs.line_order.up_to_value.Goals as goal

pub returns : goal.returns
returns c =
    let parted = IsPartitionedBy-leb (λ position. position.0) _ c.args.value c.requires in
    let point = IsPartitionPoint-from_clause (λ position. leb position.0 c.args.value) _ _ c.partition_point.ensures.partitioned parted (λ a r q k. search rules) in
    prefix_is (λ position. leb position.0 c.args.value) _ _ point c.partition_point.ensures.bound
