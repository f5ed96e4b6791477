use Rattle.std.proofs.Common.{List, Bool, subst, sym}
use Rattle.trees.specs.value_verdict.NodeVisits.{NoneMarked}
use Rattle.trees.specs.value_verdict.TreeTable.{AreMarked}
use Rattle.trees.proofs.value_verdict.AmongLemmas.{none_there}
use Rattle.trees.proofs.value_verdict.verdict_search.trees.Goals as goal

pub returns-then-has_none : goal.returns-then-has_none
returns-then-has_none c =
    none_there c.args.table.now c.args.value.now.heap.now c.args.value.now.root
    (λ t tree. subst NoneMarked c.as_slice.ensures.value (c.has_none.ensures.0 c.if-has_none.true)
    t ((c.in_ok-found.ensures t).1 tree))

pub verdict_by-requires-clause-found : goal.verdict_by-requires-clause-found
verdict_by-requires-clause-found c =
    subst (λ (found : List Bool). AreMarked c.args.table.now found)
    (sym c.as_slice-in-None.ensures.value) c.in_ok-found.ensures

pub verdict_found-requires-clause-found : goal.verdict_found-requires-clause-found
verdict_found-requires-clause-found c =
    subst (λ (found : List Bool). AreMarked c.args.table.now found)
    (sym c.as_slice-2.ensures.value) c.in_ok-found.ensures
