use Rattle.edit_values.proofs.ApplyLemmas.{copy_applied, no_copy, no_object}
use Rattle.edit_values.proofs.edit.unshare.Goals as goal

pub returns-in_default : goal.returns-in_default
returns-in_default c = record {
  answer = no_copy c.args.table.now c.args.path.now c.args.heap.now c.args.root.now c.in_ok-position.position
      (no_object c.args.table.now c.args.heap.now c.in_ok-position.position.value c.in_default.not-Ref) c.in_ok-position.ensures.position;
  value = c.requires.value;
}

pub returns-clause-answer : goal.returns-clause-answer
returns-clause-answer c =
    copy_applied c.args.table.now c.args.path.now c.args.heap.now c.args.root.now c.in_ok-position.position c.in-Ref.object c.in_ok-position.ensures.value c.in-Ref.is
    c.in_ok-position.ensures.position c.count-count.result c.in_ok-copy.copy c.copy_object.new.self c.count-count.ensures.count c.in_ok-copy.ensures.0 c.in_ok-copy.ensures.1
    c.write_if_typed.new.heap c.write_if_typed.new.root c.write_if_typed.result c.write_if_typed.ensures.kept
