use Rattle.std.proofs.Common.{sym}
use Rattle.types_spec.specs.types.Table.{table_shapes}
use Rattle.types_table.specs.type_table.Made.{table_of}
use Rattle.session.proofs.SessionTypedLemmas.{position_has_type}
use Rattle.session.proofs.SessionVerdictLemmas.{writes_found, writes_none}
use Rattle.session.proofs.value_output.write_part.Goals as goal

pub write_styled_at-requires-clause-typed : goal.write_styled_at-requires-clause-typed
write_styled_at-requires-clause-typed c =
    let table = c.table-table.result.now in
    position_has_type (table_shapes (table_of table)) c.holds-2.ensures.lawful.lawful c.args.value.now.heap.now c.args.path.now c.args.value.now.root 0 _ _
    (rw c.table-table.ensures.same c.requires.typed) (sym c.in-Some.ensures.position)

pub returns-in_ok-write_styled_at-in-Some : goal.returns-in_ok-write_styled_at-in-Some
returns-in_ok-write_styled_at-in-Some c =
    writes_found c.args.requested.now c.holds.ensures c.tables_decide.ensures.root c.args.value.now.heap.now c.args.value.now.root c.tables_decide.ensures.decide c.requires.typed
    c.roots_show_agree.ensures c.args.path.now c.args.style _ _ (rw c.table-table.ensures.same at c.in-Some.ensures.position) _ _
    (rw c.table-table.ensures.same at c.in_ok-write_styled_at-in-Some.ensures)

pub returns-in_ok-write-in-None : goal.returns-in_ok-write-in-None
returns-in_ok-write-in-None c =
    writes_none c.args.requested.now c.holds.ensures c.tables_decide.ensures.root c.args.value.now.heap.now c.args.value.now.root c.tables_decide.ensures.decide c.requires.typed
    c.roots_show_agree.ensures c.args.path.now c.args.style (rw c.table-table.ensures.same at c.in-None.ensures.position) _ _ c.in_ok-write-in-None.ensures
