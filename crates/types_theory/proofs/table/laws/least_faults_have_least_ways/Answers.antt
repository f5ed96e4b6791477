use Rattle.types_spec.specs.types.Table.{table_shapes}
use Rattle.types_theory.proofs.typing.TypingWayLemmas.{least_ways}
use Rattle.types_theory.proofs.table.TableDecideLemmas.{tables_are_decidable}
use Rattle.types_theory.proofs.table.laws.least_faults_have_least_ways.Goals as goal

pub returns : goal.returns
returns c table lawful graph root t fault least =
    least_ways (table_shapes table) lawful (tables_are_decidable table) graph root t fault least
