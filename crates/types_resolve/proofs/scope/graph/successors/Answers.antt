use Rattle.std.proofs.Common.{sym, ◌∙◌, length, refl, []}
use Rattle.std.proofs.lemmas.Option.{slice_get_read, get_or_from_slice_get}
use Rattle.types_resolve.proofs.scope.graph.successors.Goals as goal

pub returns : goal.returns
returns c =
    let nodes = c.index-graph-node.result in
    c.as_slice.ensures ∙ sym (get_or_from_slice_get c.args.graph.now c.args.node nodes []
    (slice_get_read c.args.graph.now (length c.args.graph.now) c.args.node nodes refl c.requires c.index-graph-node.is))
