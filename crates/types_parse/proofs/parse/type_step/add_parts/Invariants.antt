use Rattle.std.proofs.Common.{◌≡◌, drop}
use Rattle.types_parse.specs.parse.TypeCode.{parts_nodes, parts_node}
use Rattle.types_parse.proofs.parse.type_step.add_parts.Given as goal

abbrev pub invariant-loop-part : goal.invariant-loop-part
invariant-loop-part l =
    (parts_node l.nodes.items l.last (drop l.part-index l.parts)
    ≡ parts_node l.fn.nodes.items l.fn.whole l.parts)
    × (parts_nodes l.nodes.items l.last (drop l.part-index l.parts)
    ≡ parts_nodes l.fn.nodes.items l.fn.whole l.parts)
