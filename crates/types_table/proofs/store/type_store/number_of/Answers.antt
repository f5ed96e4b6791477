use Rattle.types_table.specs.contracts.store.stored_node.StoredNodeEq.TheImpl.Laws.{laws-law}
use Rattle.types_table.proofs.store.StoreHeldLemmas.{AreDistinct-keys}
use Rattle.types_table.proofs.store.type_store.number_of.Goals as goal

pub returns-in_err-number-clause-distinct : goal.returns-in_err-number-clause-distinct
returns-in_err-number-clause-distinct c = AreDistinct-keys _ _ c.in_err-number.ensures.unique laws-law.refl

pub returns-clause-distinct : goal.returns-clause-distinct
returns-clause-distinct c = AreDistinct-keys _ _ c.in_ok-number.ensures.unique laws-law.refl
