use Rattle.std.proofs.Common.{◌∙◌, ap}
use Rattle.base_data.proofs.model.Options.{slice_get_there}
use Rattle.types_spec.specs.types.Fault.{type_of_field}
use Rattle.types_table.specs.type_table.Made.{table_of}
use Rattle.check_fault.proofs.NearLemmas.{types_below}
use Rattle.check_fault.proofs.near.type_in.Goals as goal

pub returns-clause-is : goal.returns-clause-is
returns-clause-is c = c.type_of.ensures ∙ ap (λ fields. type_of_field fields c.args.i) c.requires.needs

pub returns-clause-number : goal.returns-clause-number
returns-clause-number c =
    let node = slice_get_there c.args.tried.now.table.now.nodes c.args.tried.now.at c.args.tried.now.number in
    types_below (table_of c.args.tried.now.table.now) c.args.tried.now.heap.now c.args.tried.now.value c.args.tried.now.at node.0 node.1 c.holds.ensures.lawful c.args.i
    c.type_of.result (c.type_of.ensures ∙ ap (λ fields. type_of_field fields c.args.i) c.requires.needs)
