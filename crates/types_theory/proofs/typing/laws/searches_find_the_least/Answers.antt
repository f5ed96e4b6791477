use Rattle.types_spec.specs.types.Table.{table_shapes}
use Rattle.types_theory.proofs.typing.TypingLeastLemmas.{mismatch_is_least, conflict_is_least}
use Rattle.types_theory.proofs.typing.laws.searches_find_the_least.Goals as goal

pub returns-clause-mismatch : goal.returns-clause-mismatch
returns-clause-mismatch c table lawful graph root t entries path searched mismatch =
    mismatch_is_least (table_shapes table) lawful graph root t entries path searched mismatch

pub returns-clause-conflict : goal.returns-clause-conflict
returns-clause-conflict c table lawful graph root t entries searched one other least =
    conflict_is_least (table_shapes table) lawful graph root t entries searched one other least
