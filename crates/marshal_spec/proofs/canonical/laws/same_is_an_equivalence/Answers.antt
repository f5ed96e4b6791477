use Rattle.marshal_spec.proofs.canonical.IsomorphismLemmas.{same_reflexive, same_symmetric, same_transitive}
use Rattle.marshal_spec.proofs.canonical.laws.same_is_an_equivalence.Goals as goal

pub returns-clause-reflexive : goal.returns-clause-reflexive
returns-clause-reflexive c = same_reflexive

pub returns-clause-symmetric : goal.returns-clause-symmetric
returns-clause-symmetric c = same_symmetric

pub returns-clause-transitive : goal.returns-clause-transitive
returns-clause-transitive c = same_transitive
