use Rattle.std.proofs.Common.{ltb, rules}
use Rattle.std.proofs.lemmas.List.Sorted.{IsPartitionPoint-from_clause, IsPartitionedBy-ltb}
use Rattle.session.specs.declared.earlier.Earlier.{Earlier}
use Rattle.session.proofs.EarlierLemmas.{numbers_rise, found_within, found_some, found_there}
use Rattle.session.proofs.earlier.earlier_value.Goals as goal

pub bounds-kept-position : goal.bounds-kept-position
bounds-kept-position c =
    let parted = IsPartitionedBy-ltb (λ (e : Earlier). e.number) _ c.args.number (numbers_rise c.args.kept.now c.requires.order) in
    let point = IsPartitionPoint-from_clause (λ (e : Earlier). ltb e.number c.args.number) _ _ c.partition_point-position.ensures.partitioned parted (λ a r q k. search rules) in
    found_within c.args.kept.now c.args.number c.requires.order c.partition_point-position.result point c.requires.there

pub unreachable-requires : goal.unreachable-requires
unreachable-requires c =
    let parted = IsPartitionedBy-ltb (λ (e : Earlier). e.number) _ c.args.number (numbers_rise c.args.kept.now c.requires.order) in
    let point = IsPartitionPoint-from_clause (λ (e : Earlier). ltb e.number c.args.number) _ _ c.partition_point-position.ensures.partitioned parted (λ a r q k. search rules) in
    found_some c.args.kept.now c.args.number c.requires.order c.partition_point-position.result point c.requires.there _ c.in-None.is

pub returns : goal.returns
returns c =
    let parted = IsPartitionedBy-ltb (λ (e : Earlier). e.number) _ c.args.number (numbers_rise c.args.kept.now c.requires.order) in
    let point = IsPartitionPoint-from_clause (λ (e : Earlier). ltb e.number c.args.number) _ _ c.partition_point-position.ensures.partitioned parted (λ a r q k. search rules) in
    found_there c.args.kept.now c.args.number c.requires.order c.partition_point-position.result point c.requires.there _ _ c.in-Some.is
