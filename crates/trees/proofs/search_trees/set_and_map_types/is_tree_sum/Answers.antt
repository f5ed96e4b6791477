use Rattle.std.proofs.Common.{◌∙◌, [], ◌∷◌, Some, length, ap}
use Rattle.types_spec.specs.declared.types.shape.ShapeOf.TheVariants as shapes
use Rattle.trees.proofs.search_trees.SearchTreeTypeLemmas.{fields_inside, sum_at, node_tree}
use Rattle.trees.proofs.search_trees.set_and_map_types.is_tree_sum.Goals as goal

pub is_node_type-requires-clause-closed : goal.is_node_type-requires-clause-closed
is_node_type-requires-clause-closed c =
    let nodes = c.args.table.now.nodes in
    fields_inside (length nodes) nodes c.args.number c.args.constants c.index-blocks-0.result c.holds.ensures.lawful.closed
    (sum_at nodes c.args.number c.args.constants c.args.blocks.now c.index-blocks-0.result c.requires.shape c.if-blocks-ne1.false c.index-blocks-0.is)

pub returns : goal.returns
returns c =
    let nodes = c.args.table.now.nodes in
    let constr = c.index-blocks-0.result in
    let at = sum_at nodes c.args.number c.args.constants c.args.blocks.now constr c.requires.shape c.if-blocks-ne1.false c.index-blocks-0.is in
    let type = node_tree c.args.table.now c.args.number constr (at ∙ ap (λ n. Some (shapes.Sum n (constr ∷ []))) c.if-constants-ne1.false) in
    (λ is. type.0 (c.is_node_type.ensures.0 is), λ tree. c.is_node_type.ensures.1 (type.1 tree))
