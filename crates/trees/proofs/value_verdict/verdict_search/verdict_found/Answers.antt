use Rattle.std.proofs.Common.{ℕ, ◌∙◌, List, length, refl, sym, subst, arith}
use Rattle.std.proofs.lemmas.Option.{slice_get_read}
use Rattle.trees.specs.declared.search_trees.judging.NodesVerdict.TheVariants.{Sound, Faulty}
use Rattle.trees.specs.declared.search_trees.tree_verdict.TreeVerdict.TheVariants as verdicts
use Rattle.trees.specs.search_trees.NodeJudgement.{AreClosed, IsJudgement}
use Rattle.trees.specs.value_verdict.TreeTable.{IsTableVerdict}
use Rattle.trees.proofs.value_verdict.AmongLemmas.{fault_inside}
use Rattle.trees.proofs.value_verdict.PairLemmas.{found_closed, found_sound, found_at_root}
use Rattle.trees.proofs.value_verdict.verdict_search.verdict_found.Goals as goal

pub judge-requires : goal.judge-requires
judge-requires c =
    subst (AreClosed c.args.value.now.heap.now) (sym c.as_slice.ensures.value)
    (found_closed c.args.table.now c.args.value.now.heap.now c.args.value.now.root c.holds.ensures.lawful c.requires.table c.requires.has
    c.in_ok-nodes.nodes.items c.in_ok-nodes.ensures)

pub returns-in-Sound : goal.returns-in-Sound
returns-in-Sound c =
    let graph = c.args.value.now.heap.now in
    found_sound c.args.table.now graph c.args.value.now.root c.holds.ensures.lawful c.requires.table c.requires.has
    c.in_ok-nodes.nodes.items c.in_ok-nodes.ensures c.len.result
    (subst (λ (xs : List ℕ). IsJudgement graph xs Sound) c.as_slice.ensures.value
    (subst (IsJudgement graph c.as_slice.result.now) c.in-Sound.is c.in_ok-judge.ensures))
    (omega (arith, c.len.ensures))

pub index-requires : goal.index-requires
index-requires c =
    let graph = c.args.value.now.heap.now in
    let judged : IsJudgement graph c.in_ok-nodes.nodes.items (Faulty c.in-Faulty.kind c.in-Faulty.i)
    = subst (λ (xs : List ℕ). IsJudgement graph xs (Faulty c.in-Faulty.kind c.in-Faulty.i))
    c.as_slice.ensures.value
    (subst (IsJudgement graph c.as_slice.result.now) c.in-Faulty.is c.in_ok-judge.ensures) in
    let inside = fault_inside graph c.in_ok-nodes.nodes.items c.in-Faulty.kind c.in-Faulty.i
    judged.0 in
    omega (arith, inside)

pub returns-then-is_object : goal.returns-then-is_object
returns-then-is_object c =
    let graph = c.args.value.now.heap.now in
    let nodes = c.in_ok-nodes.nodes.items in
    let judged : IsJudgement graph nodes (Faulty c.in-Faulty.kind c.in-Faulty.i)
    = subst (λ (xs : List ℕ). IsJudgement graph xs (Faulty c.in-Faulty.kind c.in-Faulty.i))
    c.as_slice.ensures.value
    (subst (IsJudgement graph c.as_slice.result.now) c.in-Faulty.is c.in_ok-judge.ensures) in
    let inside = fault_inside graph nodes c.in-Faulty.kind c.in-Faulty.i judged.0 in
    subst (λ (path : List ℕ). IsTableVerdict c.args.table.now graph c.args.value.now.root
    (verdicts.Faulty c.in-Faulty.kind path)) (sym c.new.ensures)
    (found_at_root c.args.table.now graph c.args.value.now.root c.holds.ensures.lawful c.requires.table c.requires.has
    nodes c.in_ok-nodes.ensures c.in-Faulty.kind c.in-Faulty.i c.index.result.now judged
    (slice_get_read nodes (length nodes) c.in-Faulty.i c.index.result.now refl
    (omega (arith, inside)) c.index.ensures)
    (c.is_object.ensures.0 c.if-is_object.true)
    ((c.requires.found 0).0 (sym c.is_marked.ensures ∙ c.if-is_marked.true)))
