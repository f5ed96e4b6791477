use Rattle.std.proofs.Common.{ℕ, ◌<◌, Option, length, subst}
use Rattle.std.specs.Prelude.{Contains}
use Rattle.types_spec.specs.types.Reached.{listed_if}
use Rattle.types_table.specs.partition.Lists.{Has}
use Rattle.types_table.proofs.partition.PartitionLoopLemmas.{only_one}
use Rattle.types_table.proofs.partition.users.use_argument.Goals as goal

pub returns-in_ok-use_part-in-Some-clause-added : goal.returns-in_ok-use_part-in-Some-clause-added
returns-in_ok-use_part-in-Some-clause-added c k among =
    only_one (λ j. j < length c.args.users.now.items → Has c.use_part.new.users.items j c.args.user) _ k
    c.in_ok-use_part-in-Some.ensures.added
    (subst (λ (a : Option ℕ). Contains (listed_if a) k) c.in-Some.is among)
