use Rattle.std.proofs.Common.{ap, arith, length}
use Rattle.types_table.specs.store.View.{encoded}
use Rattle.types_table.proofs.store.StoreLemmas.{types_in-length, node_at}
use Rattle.types_table.proofs.store.StoreHeldLemmas.{get-map}
use Rattle.types_table.proofs.store.type_store.TypeStore.node.Goals as goal

pub stored-requires : goal.stored-requires
stored-requires c =
    omega (arith, types_in-length c.self.inside.names c.self.inside.nodes.keys, ap length c.self.view_is, c.requires)

pub encoding-requires : goal.encoding-requires
encoding-requires c = c.self.invariant.named _ _ c.stored.ensures

pub returns-clause-is : goal.returns-clause-is
returns-clause-is c =
    rw (c.encoding.ensures, ← c.self.view_is) (node_at _ _ _ _ c.self.invariant c.stored.ensures)

pub returns-clause-below : goal.returns-clause-below
returns-clause-below c =
    rw c.encoding.ensures (c.self.invariant.ordered _ _ (get-map (encoded c.self.inside.names) c.self.inside.nodes.keys c.args.number c.stored.result c.stored.ensures))
