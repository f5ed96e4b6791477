use Rattle.std.proofs.Common.{ap, ◌∙◌, length, take, arith, ◌≤◌}
use Rattle.types_table.specs.store.View.{types_in}
use Rattle.types_table.proofs.store.StoreLemmas.{types_in-length, types_in-take, store_take}
use Rattle.types_table.proofs.store.type_store.TypeStore.truncate.Goals as goal

pub invariant_of-self : goal.invariant_of-self
invariant_of-self c =
    rw c.truncate.ensures.keys (store_take c.args.count _ _ c.self.invariant)

pub returns : goal.returns
returns c =
    let many : c.args.count ≤ length c.self.inside.nodes.keys =
    omega (arith, types_in-length c.self.inside.names c.self.inside.nodes.keys, ap length c.self.view_is, c.requires) in
    ap (types_in c.self.inside.names) c.truncate.ensures.keys
    ∙ types_in-take c.args.count c.self.inside.names c.self.inside.nodes.keys many
    ∙ ap (take c.args.count) c.self.view_is
