use Rattle.std.proofs.Common.{ap, sym, ◌∙◌}
use Rattle.types_spec.specs.types.Ty.{tuple}
use Rattle.types_spec.specs.types.TypeText.{is_product}
use Rattle.types_table.proofs.type_table.TypeTableWriteLemmas.{stem_is, stem-tuple, no_tuple}
use Rattle.types_table.proofs.type_table.type_printer.is_tuple.Goals as goal

pub returns-in-Tuple : goal.returns-in-Tuple
returns-in-Tuple c =
    sym (ap is_product (stem_is c.args.types.now c.stem_of.result c.args.number tuple c.in-Tuple.ensures.is c.stem_of.ensures.same
    ∙ stem-tuple))

pub returns-in_default : goal.returns-in_default
returns-in_default c =
    no_tuple c.args.types.now c.stem_of.result c.args.number c.node.result c.node.ensures.is c.stem_of.ensures.first
    c.stem_of.ensures.same c.in_default.not-Tuple
