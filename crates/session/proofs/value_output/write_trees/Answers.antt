use Rattle.session.proofs.SessionVerdictLemmas.{writes_trees}
use Rattle.session.proofs.value_output.write_trees.Goals as goal

pub trees-requires-clause-table : goal.trees-requires-clause-table
trees-requires-clause-table c =
    let r = c.args.requested.now in
    rw c.table.ensures.same
    (c.tables_judge_trees.ensures r.decls r.ty r.table c.holds.ensures.ok c.holds.ensures.sound c.holds.ensures.made)

pub trees-requires-clause-has : goal.trees-requires-clause-has
trees-requires-clause-has c = rw c.table.ensures.same c.requires.typed

pub returns : goal.returns
returns c =
    rw c.is_sound.ensures
    (writes_trees c.args.requested.now c.holds.ensures c.tables_decide.ensures.root c.args.value.now.heap.now c.args.value.now.root c.tables_decide.ensures.decide c.requires.typed
    c.tables_have_the_verdict.ensures _ (rw c.table.ensures.same at c.in_ok-verdict.ensures) _ _ c.in_ok-write_verdict.ensures)
