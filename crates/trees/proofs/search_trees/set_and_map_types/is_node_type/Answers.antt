use Rattle.trees.proofs.search_trees.SearchTreeTypeLemmas.{map_type_of}
use Rattle.trees.proofs.search_trees.set_and_map_types.is_node_type.Goals as goal

pub returns-in-5 : goal.returns-in-5
returns-in-5 c =
    map_type_of c.args.table.now c.args.number c.args.constr.now c.as_slice-fields.result.now c.is_map_type.result c.if-constr.false
    c.as_slice-fields.ensures c.in-5.is c.is_map_type.ensures
