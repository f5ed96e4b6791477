use Rattle.std.proofs.Common.{refl}
use Rattle.session.proofs.EarlierLemmas.{found_made, edit_applied, graft_applied}
use Rattle.session.proofs.edit_lines.act.Goals as goal

pub returns-in-Edit-clause-applied : goal.returns-in-Edit-clause-applied
returns-in-Edit-clause-applied c = λ others are.
    rw c.in-Edit.is
    (edit_applied c.args.requested.now.table others c.args.value.now.heap c.apply.new.heap c.args.value.now.root c.apply.new.root c.in-Edit.edit c.apply.result (rw c.table-table.ensures.same at c.apply.ensures.answer))

pub earlier_value-from-requires-clause-order : goal.earlier_value-from-requires-clause-order
earlier_value-from-requires-clause-order c = c.requires.served.in_order

pub earlier_value-from-requires-clause-there : goal.earlier_value-from-requires-clause-there
earlier_value-from-requires-clause-there c = c.requires.served.there c.in-Graft.number (rw c.in-Graft.is refl)

pub graft-requires-clause-other : goal.graft-requires-clause-other
graft-requires-clause-other c =
    (found_made c.requires.kept.0 c.args.kept.now c.in-Graft.number c.earlier_value-from.result.now c.requires.kept.1 c.earlier_value-from.ensures).valid

pub returns-in-Graft-clause-applied : goal.returns-in-Graft-clause-applied
returns-in-Graft-clause-applied c = λ others are.
    let from = c.earlier_value-from.result.now in
    rw c.in-Graft.is
    (graft_applied c.args.requested.now.table others c.args.value.now.heap c.graft.new.heap c.args.value.now.root c.graft.new.root c.in-Graft.path c.in-Graft.source c.in-Graft.number
    from c.graft.result (found_made others c.args.kept.now c.in-Graft.number from are c.earlier_value-from.ensures) (rw c.table-table.ensures.same at c.graft.ensures.answer))
