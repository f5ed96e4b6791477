use Rattle.edit_values.proofs.ApplyLemmas.{link_applied}
use Rattle.edit_values.proofs.edit.link.Goals as goal

pub returns-clause-answer : goal.returns-clause-answer
returns-clause-answer c =
    link_applied c.args.table.now c.args.path.now c.args.source.now c.args.heap.now c.args.root.now c.in_ok-position.position c.in_ok-from.from
    c.in_ok-position.ensures.position c.in_ok-from.ensures.position c.count-count.result c.count-count.ensures.count
    c.write_if_typed.new.heap c.write_if_typed.new.root c.write_if_typed.result c.write_if_typed.ensures.kept
