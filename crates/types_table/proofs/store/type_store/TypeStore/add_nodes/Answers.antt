use Rattle.std.proofs.Common.{refl, []}
use Rattle.types_table.specs.store.Instance.{argument_at}
use Rattle.types_table.proofs.store.StoreInstanceLemmas.{each_there}
use Rattle.types_table.proofs.store.type_store.TypeStore.add_nodes.Goals as goal

pub returns-in-Ok-clause-ok : goal.returns-in-Ok-clause-ok
returns-in-Ok-clause-ok c =
    each_there c.args.self.now c.numbers_of.new.types (argument_at c.args.self.now [] []) c.args.nodes.now
    c.in-Ok.numbers.items (λ x. refl) c.in-Ok.ensures.ok
