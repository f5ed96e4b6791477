use Rattle.std.proofs.lemmas.Result.{IfOk-weaker}
use Rattle.trees.specs.search_trees.TreeType.{IsTreeNumber}
use Rattle.trees.specs.value_verdict.NodeVisits.{IsMarked, IsVerdictAmong}
use Rattle.trees.specs.value_verdict.TreeTable.{IsTableVerdict}
use Rattle.trees.proofs.value_verdict.AmongLemmas.{closed, verdict_is}
use Rattle.trees.proofs.value_verdict.TreeVerdictVisitLemmas.{same_visits}
use Rattle.trees.proofs.value_verdict.verdict_search.verdict_by.Goals as goal

pub verdict_among-requires-clause-closed : goal.verdict_among-requires-clause-closed
verdict_among-requires-clause-closed c =
    let table = c.args.table.now in
    closed table c.args.value.now.heap.now c.args.value.now.root c.holds.ensures.lawful c.requires.table c.requires.has c.in_ok-all.all
    c.in_ok-all.ensures c.in_ok-nodes.nodes
    (same_visits (IsMarked c.args.found.now) (IsTreeNumber table) c.in_ok-all.all _
    c.in_ok-nodes.nodes c.requires.found c.in_ok-nodes.ensures)

pub returns : goal.returns
returns c =
    let table = c.args.table.now in
    let graph = c.args.value.now.heap.now in
    IfOk-weaker c.verdict_among.result (IsVerdictAmong graph c.in_ok-all.all c.in_ok-nodes.nodes)
    (IsTableVerdict table graph c.args.value.now.root)
    (verdict_is table graph c.args.value.now.root c.holds.ensures.lawful c.requires.table c.requires.has c.in_ok-all.all
    c.in_ok-all.ensures c.in_ok-nodes.nodes
    (same_visits (IsMarked c.args.found.now) (IsTreeNumber table) c.in_ok-all.all _
    c.in_ok-nodes.nodes c.requires.found c.in_ok-nodes.ensures))
    c.verdict_among.ensures
