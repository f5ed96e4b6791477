use Rattle.std.proofs.Common.{◌∙◌, ltb, rules}
use Rattle.std.proofs.lemmas.List.{take_rest}
use Rattle.std.proofs.lemmas.List.Sorted.{IsPartitionPoint-from_clause, IsPartitionedBy-ltb}
use Rattle.text_path.proofs.PathOrderLemmas.{back_is}
use Rattle.text_path.proofs.line_order.from_value.Goals as goal

pub returns : goal.returns
returns c =
    let parted = IsPartitionedBy-ltb (λ position. position.0) _ c.args.value c.requires in
    let point = IsPartitionPoint-from_clause (λ position. ltb position.0 c.args.value) _ _ c.partition_point.ensures.partitioned parted (λ a r q k. search rules) in
    take_rest c.args.order.now c.partition_point.result ∙ back_is (λ position. ltb position.0 c.args.value) c.args.order.now c.partition_point.result point c.partition_point.ensures.bound
