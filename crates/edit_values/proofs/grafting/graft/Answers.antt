use Rattle.edit_values.proofs.GraftAnswers.{graft_applied, graft_given, graft_copied}
use Rattle.edit_values.specs.Grafts.{IsGraftApplied}
use Rattle.edit_values.proofs.grafting.graft.Goals as goal

applied : (c : goal.After-write_if_typed) → IsGraftApplied c.args.table.now c.args.path.now (c.args.from.now, c.args.other) c.args.source.now c.args.heap.now c.args.root.now
    c.write_if_typed.new.heap c.write_if_typed.new.root c.write_if_typed.result
applied c =
    graft_applied c.args.table.now c.args.path.now (c.args.from.now, c.args.other) c.args.source.now c.args.heap.now c.args.root.now
    c.in_ok-position.position c.in_ok-position.ensures.position c.in_ok-part.part c.in_ok-part.ensures.position c.append_copy.new.heap c.in_ok-value.value c.in_ok-value.ensures.copy
    c.count-count.result c.count-count.ensures.count c.write_if_typed.new.heap c.write_if_typed.new.root c.write_if_typed.result c.write_if_typed.ensures.kept

pub returns-clause-answer : goal.returns-clause-answer
returns-clause-answer c = applied c

pub returns-clause-only : goal.returns-clause-only
returns-clause-only c =
    graft_given c.args.table.now c.args.path.now (c.args.from.now, c.args.other) c.args.source.now c.args.heap.now c.args.root.now
    c.holds.ensures.lawful c.write_if_typed.new.heap c.write_if_typed.new.root c.write_if_typed.result (applied c)

pub returns-clause-copy : goal.returns-clause-copy
returns-clause-copy c =
    graft_copied c.args.table.now c.args.path.now (c.args.from.now, c.args.other) c.args.source.now c.args.heap.now c.args.root.now
    c.write_if_typed.new.heap c.write_if_typed.new.root c.write_if_typed.result (applied c)
