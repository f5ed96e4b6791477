use Rattle.types_spec.specs.types.Equal.{declared_shapes}
use Rattle.types_spec.specs.types.Table.{table_shapes}
use Rattle.types_theory.proofs.wildcard.WildcardWeakerLemmas.{has_still}
use Rattle.types_theory.proofs.wildcard.laws.weaker_shapes_have_more_values.Goals as goal

pub returns-clause-declared : goal.returns-clause-declared
returns-clause-declared c weak strong weaker graph v t has =
    has_still (declared_shapes weak) (declared_shapes strong) weaker graph v t has

pub returns-clause-numbers : goal.returns-clause-numbers
returns-clause-numbers c weak strong weaker graph v i has =
    has_still (table_shapes weak) (table_shapes strong) weaker graph v i has
