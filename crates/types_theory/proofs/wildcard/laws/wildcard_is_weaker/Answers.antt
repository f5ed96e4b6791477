use Rattle.types_spec.specs.types.Equal.{declared_shapes}
use Rattle.types_theory.specs.wildcard.Wildcard.{hide}
use Rattle.types_theory.proofs.wildcard.WildcardWeakerLemmas.{has_still}
use Rattle.types_theory.proofs.wildcard.WildcardHeadLemmas.{heads_wildcard}
use Rattle.types_theory.proofs.wildcard.WildcardShapeLemmas.{weaker}
use Rattle.types_theory.proofs.wildcard.MixedLemmas.{mixed_by_hiding}
use Rattle.types_theory.proofs.wildcard.laws.wildcard_is_weaker.Goals as goal

pub returns-clause-heads : goal.returns-clause-heads
returns-clause-heads c decls hides well datatypes t = heads_wildcard hides decls well datatypes t

pub returns-clause-types : goal.returns-clause-types
returns-clause-types c decls hides well datatypes graph v t has =
    has_still (declared_shapes (hide hides decls)) (declared_shapes decls)
    (weaker hides decls well datatypes) graph v t has

pub returns-clause-records : goal.returns-clause-records
returns-clause-records c decls hides well datatypes fields = mixed_by_hiding hides decls well datatypes fields
