use Rattle.std.proofs.Common.{List, ℕ, length, refl, subst, arith}
use Rattle.std.proofs.lemmas.Option.{slice_get_read}
use Rattle.trees.specs.declared.search_trees.judging.NodesVerdict.TheVariants.{Faulty}
use Rattle.trees.specs.search_trees.NodeJudgement.{IsJudgement}
use Rattle.trees.proofs.value_verdict.AmongLemmas.{fault_inside}
use Rattle.trees.proofs.value_verdict.verdict_search.verdict_among.Goals as goal

pub returns-in_ok-path-in-Faulty : goal.returns-in_ok-path-in-Faulty
returns-in_ok-path-in-Faulty c =
    let graph = c.args.heap.now in
    let objects = c.args.nodes.now.objects.items in
    let visits = c.args.nodes.now.visits.items in
    let judged : IsJudgement graph objects (Faulty c.in-Faulty.kind c.in-Faulty.i) =
    subst (λ (xs : List ℕ). IsJudgement graph xs (Faulty c.in-Faulty.kind c.in-Faulty.i))
    c.as_slice.ensures.value
    (subst (IsJudgement graph c.as_slice.result.now) c.in-Faulty.is c.in_ok-judge.ensures) in
    let inside = fault_inside graph objects c.in-Faulty.kind c.in-Faulty.i judged.0 in
    let many = c.requires.many in (
      c.in-Faulty.i,
      c.index.result.now,
      judged,
      slice_get_read visits (length visits) c.in-Faulty.i c.index.result.now refl
          (omega (arith, inside, many)) c.index.ensures,
      c.in_ok-path-in-Faulty.ensures,
    )
