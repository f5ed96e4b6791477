use Rattle.std.proofs.Common.{◌∙◌, ◌++◌, [], ◌∷◌, false, get_or, sym, ap}
use Rattle.trees.specs.value_verdict.NodeVisits.{IsMarked}
use Rattle.trees.proofs.value_verdict.TreeVerdictVisitLemmas.{taken, visit_read}
use Rattle.trees.proofs.value_verdict.tree_nodes.take_visit.Goals as goal

pub returns-in_ok-push-2 : goal.returns-in_ok-push-2
returns-in_ok-push-2 c =
    let all = c.args.all.now in
    let k = c.args.k in
    let v = visit_read all k c.get-object.result.0 c.get-object.result.1 c.requires.in_range
    c.get-object.ensures in
    taken (IsMarked c.args.found.now) all c.args.nodes.now
    (record { objects = c.push.new.self; visits = c.push-then-is_marked.new.self }) k v.0 v.1
    (ap (λ t. get_or c.args.found.now t false) (sym v.3) ∙ sym c.is_marked.ensures ∙
    c.if-is_marked.true)
    (c.in_ok-push.ensures.items ∙ ap (λ o. c.args.nodes.now.objects.items ++ o ∷ []) v.2)
    c.in_ok-push-2.ensures.items c.requires.so_far
