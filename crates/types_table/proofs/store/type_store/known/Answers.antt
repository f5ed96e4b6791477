use Rattle.types_table.proofs.store.StoreLemmas.{types_in-names, store_names, names_grown, name_below, name_is}
use Rattle.types_table.proofs.store.type_store.known.Goals as goal

pub returns-clause-store : goal.returns-clause-store
returns-clause-store c =
    let grown = names_grown _ _ _ c.number.result c.number.ensures.ok c.number.ensures.err in
    store_names _ _ grown.0 _ grown.1 c.requires c.number.ensures.distinct

pub returns-clause-types : goal.returns-clause-types
returns-clause-types c =
    let grown = names_grown _ _ _ c.number.result c.number.ensures.ok c.number.ensures.err in
    types_in-names _ _ grown.0 _ grown.1 c.requires

pub returns-clause-below : goal.returns-clause-below
returns-clause-below c =
    name_below _ _ _ c.number.result c.number.ensures.ok c.number.ensures.err

pub returns-clause-is : goal.returns-clause-is
returns-clause-is c = name_is _ _ _ c.number.result c.number.ensures.ok c.number.ensures.err
