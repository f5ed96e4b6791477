use Rattle.std.proofs.Common.{List, take, ap, subst, sym, ◌∙◌}
use Rattle.base_data.specs.declared.model.value.Val.{Val}
use Rattle.base_data.specs.declared.model.value.Obj.{Obj}
use Rattle.base_data.specs.model.Graph.{IsGraph}
use Rattle.types_spec.specs.types.LeastFault.{IsLeastFault}
use Rattle.types_spec.specs.types.Typing.{HasType}
use Rattle.types_spec.specs.types.Table.{table_shapes}
use Rattle.types_table.specs.type_table.Made.{table_of}
use Rattle.check_heap.specs.check.Verdict.{IsVerdict}
use Rattle.edit_values.proofs.EditWriteLemmas.{restored, stands_whole, there_after}
use Rattle.edit_values.proofs.edit.write_if_typed.Goals.{in-Ok-No, in-Err}
use Rattle.edit_values.proofs.edit.write_if_typed.Goals as goal

pub returns-in-Ok-Yes-clause-kept : goal.returns-in-Ok-Yes-clause-kept
returns-in-Ok-Yes-clause-kept c = (
  c.write.ensures,
  subst (λ (m : List Obj × Val). HasType (table_shapes (table_of c.args.table.now)) m.0 m.1 0) c.write.ensures
      (subst (λ v. IsVerdict (table_of c.args.table.now) c.write.new.heap c.write.new.root v) c.in-Ok-Yes.field-0-is c.in-Ok-Yes.ensures.verdict).0,
)

pub write-requires-2-clause-there : goal.write-requires-2-clause-there
write-requires-2-clause-there c =
    there_after c.args.position.spot c.args.value c.args.position.value c.args.heap.now c.args.root.now c.write.new.heap c.write.new.root
    (stands_whole c.args.count c.args.heap.now c.args.root.now c.args.position.spot c.args.position.value c.requires.stands) c.write.ensures

pub truncate-requires-clause-closed : goal.truncate-requires-clause-closed
truncate-requires-clause-closed c =
    subst (λ (m : List Obj × Val). IsGraph (take c.args.count m.0))
    (sym (restored c.args.position.spot c.args.value c.args.position.value c.args.heap.now c.args.root.now c.write.new.heap c.write.new.root c.write-2.new.heap c.write-2.new.root
    (stands_whole c.args.count c.args.heap.now c.args.root.now c.args.position.spot c.args.position.value c.requires.stands) c.write.ensures c.write-2.ensures)) c.requires.closed

pub returns-clause-kept : goal.returns-clause-kept
returns-clause-kept c =
    let back = restored c.args.position.spot c.args.value c.args.position.value c.args.heap.now c.args.root.now c.write.new.heap c.write.new.root c.write-2.new.heap c.write-2.new.root
    (stands_whole c.args.count c.args.heap.now c.args.root.now c.args.position.spot c.args.position.value c.requires.stands) c.write.ensures c.write-2.ensures in (
      c.truncate.ensures ∙ ap (λ (m : List Obj × Val). take c.args.count m.0) back,
      ap (λ (m : List Obj × Val). m.1) back,
      elim c.match-check.branch [
        | in-Ok-No w ↦ rw w.refusal-is (subst (λ (m : List Obj × Val). IsLeastFault (table_shapes (table_of c.args.table.now)) m.0 m.1 0 w.in-Ok-No.fault) c.write.ensures
            (subst (λ v. IsVerdict (table_of c.args.table.now) c.write.new.heap c.write.new.root v) w.in-Ok-No.field-0-is w.in-Ok-No.ensures.verdict))
        | in-Err w ↦ rw w.refusal-is tt
      ],
    )
