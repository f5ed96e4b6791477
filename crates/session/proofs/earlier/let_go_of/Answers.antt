use Rattle.std.proofs.Common.{◌∙◌, set, ltb, rules, ap}
use Rattle.std.proofs.lemmas.List.Sorted.{IsPartitionPoint-from_clause, IsPartitionedBy-ltb}
use Rattle.session.specs.declared.earlier.Earlier.{Earlier}
use Rattle.session.proofs.EarlierLemmas.{numbers_rise, let_go_at, let_go_none}
use Rattle.session.proofs.earlier.let_go_of.Goals as goal

pub returns-then-position-kept : goal.returns-then-position-kept
returns-then-position-kept c =
    let parted = IsPartitionedBy-ltb (λ (e : Earlier). e.number) _ c.args.from (numbers_rise c.args.kept.now c.requires) in
    let point = IsPartitionPoint-from_clause (λ (e : Earlier). ltb e.number c.args.from) _ _ c.partition_point-position.ensures.partitioned parted (λ a r q k. search rules) in
    ap (set c.args.kept.now c.partition_point-position.result) c.let_go.ensures
    ∙ let_go_at c.args.kept.now c.args.from c.requires c.partition_point-position.result point c.args.number _ c.if-position-kept.true

pub returns-else-position-kept : goal.returns-else-position-kept
returns-else-position-kept c =
    let parted = IsPartitionedBy-ltb (λ (e : Earlier). e.number) _ c.args.from (numbers_rise c.args.kept.now c.requires) in
    let point = IsPartitionPoint-from_clause (λ (e : Earlier). ltb e.number c.args.from) _ _ c.partition_point-position.ensures.partitioned parted (λ a r q k. search rules) in
    let_go_none c.args.kept.now c.args.from c.requires c.partition_point-position.result point c.args.number c.if-position-kept.false
