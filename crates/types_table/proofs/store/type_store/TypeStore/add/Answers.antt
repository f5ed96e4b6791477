use Rattle.std.proofs.Common.{refl, subst, IfOk}
use Rattle.types_table.specs.store.Held.{Holds}
use Rattle.types_table.proofs.store.StoreInstanceLemmas.{instance_itself}
use Rattle.types_table.proofs.store.type_store.TypeStore.add.Goals as goal

pub returns-clause-ok : goal.returns-clause-ok
returns-clause-ok c =
    subst (λ u. IfOk c.instance.result (Holds c.args.self.now c.instance.new.self u))
    (instance_itself _ (λ x. refl) c.args.t.now) c.instance.ensures.ok
