use Rattle.types_table.proofs.store.StoreLemmas.{store_after, holds_after}
use Rattle.types_table.proofs.store.type_store.write.Goals as goal

pub returns-clause-store : goal.returns-clause-store
returns-clause-store c =
    store_after _ _ _ _ c.number_of.result c.number_of.ensures.ok c.number_of.ensures.err
    c.requires.store c.number_of.ensures.distinct c.requires.named c.requires.below

pub returns-clause-ok : goal.returns-clause-ok
returns-clause-ok c =
    holds_after _ _ _ _ c.number_of.result c.number_of.ensures.ok c.number_of.ensures.err
    c.requires.store c.number_of.ensures.distinct c.requires.named c.requires.below
