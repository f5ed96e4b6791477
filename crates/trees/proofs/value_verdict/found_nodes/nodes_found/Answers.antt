use Rattle.std.proofs.Common.{◌≡◌, subst}
use Rattle.std.proofs.lemmas.Result.{IfOk-weaker}
use Rattle.types_spec.specs.types.LawfulShapes.{Everything}
use Rattle.types_spec.specs.types.Table.{table_shapes}
use Rattle.types_spec.proofs.types.TypeFaultLemmas.{fault_excludes_type}
use Rattle.types_table.specs.type_table.Made.{table_of}
use Rattle.check_heap.specs.check.Verdict.{IsVerdict, PairsHavePaths}
use Rattle.trees.specs.value_verdict.NodePairs.{AreNodeObjects, marked_objects}
use Rattle.trees.proofs.value_verdict.PairLemmas.{are_found}
use Rattle.trees.proofs.value_verdict.found_nodes.nodes_found.Goals as goal

pub unreachable-requires : goal.unreachable-requires
unreachable-requires c =
    let table = table_of c.args.table.now in
    let least = subst (IsVerdict table c.args.value.now.heap.now c.args.value.now.root) c.in-No.is
    c.in_ok-typing.ensures.verdict in
    fault_excludes_type (table_shapes table) Everything c.holds.ensures.lawful.lawful
    c.args.value.now.heap.now c.args.value.now.root 0 c.in-No.field-0 tt least.is_fault c.requires.has

pub returns : goal.returns
returns c =
    let table = table_of c.args.table.now in
    let graph = c.args.value.now.heap.now in
    let root = c.args.value.now.root in
    let yes = subst (IsVerdict table graph root) c.in-Yes.is c.in_ok-typing.ensures.verdict in
    let paths = subst (PairsHavePaths table graph root) c.in-Yes.is c.in_ok-typing.ensures.paths in
    IfOk-weaker c.objects_at.result
    (λ nodes. nodes.items ≡ marked_objects c.args.found.now c.in-Yes.typing)
    (λ nodes. AreNodeObjects c.args.table.now graph root nodes.items)
    (λ nodes is. are_found c.args.table.now graph root c.holds.ensures.lawful c.requires.table c.requires.has
    c.in-Yes.typing yes.1 paths c.args.found.now c.requires.found nodes.items is)
    c.objects_at.ensures
