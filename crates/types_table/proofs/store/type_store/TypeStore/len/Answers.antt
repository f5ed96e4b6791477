use Rattle.std.proofs.Common.{ap, ◌∙◌, sym, subst, length}
use Rattle.types_table.proofs.store.StoreLemmas.{types_in-length}
use Rattle.types_table.proofs.store.DistinctLemmas.{types_in-distinct}
use Rattle.types_table.specs.store.Held.{AreDistinct}
use Rattle.types_table.proofs.store.type_store.TypeStore.len.Goals as goal

pub returns-clause-many : goal.returns-clause-many
returns-clause-many c =
    c.len.ensures.len ∙ sym (types_in-length c.self.inside.names c.self.inside.nodes.keys)
    ∙ ap length c.self.view_is

pub returns-clause-distinct : goal.returns-clause-distinct
returns-clause-distinct c = subst AreDistinct c.self.view_is (types_in-distinct _ _ c.self.invariant)
