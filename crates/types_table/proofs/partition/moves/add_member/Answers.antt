use Rattle.std.proofs.Common.{subst}
use Rattle.types_table.specs.partition.Lists.{Has}
use Rattle.types_table.proofs.partition.moves.add_member.Goals as goal

pub returns-clause-has : goal.returns-clause-has
returns-clause-has c moved =
    subst (λ d. Has c.write.new.lists.items d c.args.number) c.class_at-to.ensures c.in_ok-write.ensures.there
