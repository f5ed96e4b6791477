use Rattle.std.proofs.Common.{Vec, Global, ℕ, List, Bool, false, get_or, refl, sym, ap, arith, subst, ◌∙◌, ◌≡◌, ◌+◌, ◌++◌, ◌∷◌, []}
use Rattle.std.specs.Prelude.{vec_len}
use Rattle.std.proofs.lemmas.Bool.{false≢true}
use Rattle.std.proofs.lemmas.Option.{slice_get_within}
use Rattle.types_resolve.specs.scope.CycleSearch.{unseen_count}
use Rattle.types_resolve.proofs.scope.ScopeSearchLemmas.{IsExpanding, expanding_push, expanding_skip, expanding_end, expanding_first, unseen_count-set}
use Rattle.types_resolve.proofs.scope.cycle_search.expand.Goals as goal
use Rattle.types_resolve.proofs.scope.cycle_search.expand.Goals.{then-is_unseen+in_ok-push, else-is_unseen}

pub bounds-seen-next : goal.bounds-seen-next
bounds-seen-next c = slice_get_within c.loop-i.seen (get_or c.successors-nodes.result.now c.loop-i.i 0) false
    (c.is_unseen.ensures.0 c.if-is_unseen.true)

pub loop-i-preserved : goal.loop-i-preserved
loop-i-preserved c = elim c.if-is_unseen.branch [
  | then-is_unseen+in_ok-push w ↦
      let next = get_or c.successors-nodes.result.now c.loop-i.i 0 in
      let unseen = c.is_unseen.ensures.0 w.if-is_unseen.true in
      let more = expanding_push c.args.graph.now c.args.node c.args.seen.now c.args.stack.now.items c.loop-i.seen c.loop-i.stack.items
      c.successors-nodes.result.now c.loop-i.i c.loop-i.invariant.0 c.loop-i-test.true c.successors-nodes.ensures unseen in
      let stack_is : c.if-is_unseen.stack.items ≡ c.loop-i.stack.items ++ next ∷ [] =
      ap (λ (v : Vec ℕ Global). v.items) w.stack-is ∙ w.in_ok-push.ensures.items in
      let longer : vec_len c.if-is_unseen.stack ≡ vec_len c.loop-i.stack + 1 =
      ap (λ (v : Vec ℕ Global). vec_len v) w.stack-is ∙ w.in_ok-push.ensures.len in (
        subst (λ (stack : List ℕ). IsExpanding c.args.graph.now c.args.node c.args.seen.now c.args.stack.now.items c.if-is_unseen.seen stack
            c.successors-nodes.result.now (c.loop-i.i + 1)) (sym stack_is)
            (subst (λ (seen : List Bool). IsExpanding c.args.graph.now c.args.node c.args.seen.now c.args.stack.now.items seen
            (c.loop-i.stack.items ++ next ∷ []) c.successors-nodes.result.now (c.loop-i.i + 1)) (sym w.seen-is) more),
        omega (arith, unseen_count-set c.loop-i.seen next unseen, ap unseen_count w.seen-is, c.loop-i.invariant.1, longer),
      )
  | else-is_unseen w ↦
      let same_stack : c.if-is_unseen.stack.items ≡ c.loop-i.stack.items =
      ap (λ (v : Vec ℕ Global). v.items) w.stack-is in (
        subst (λ (stack : List ℕ). IsExpanding c.args.graph.now c.args.node c.args.seen.now c.args.stack.now.items c.if-is_unseen.seen stack
            c.successors-nodes.result.now (c.loop-i.i + 1)) (sym same_stack)
            (subst (λ (seen : List Bool). IsExpanding c.args.graph.now c.args.node c.args.seen.now c.args.stack.now.items seen
            c.loop-i.stack.items c.successors-nodes.result.now (c.loop-i.i + 1)) (sym w.seen-is)
            (expanding_skip c.args.graph.now c.args.node c.args.seen.now c.args.stack.now.items c.loop-i.seen c.loop-i.stack.items
            c.successors-nodes.result.now c.loop-i.i c.loop-i.invariant.0 (λ unseen. false≢true (sym w.if-is_unseen.false ∙ c.is_unseen.ensures.1 unseen)))),
        omega (arith, ap unseen_count w.seen-is, ap (λ (v : Vec ℕ Global). vec_len v) w.stack-is, c.loop-i.invariant.1),
      )
]

pub loop-i-init : goal.loop-i-init
loop-i-init c = (
  expanding_first c.args.graph.now c.args.node c.args.seen.now c.args.stack.now.items c.successors-nodes.result.now,
  refl,
)

pub returns-clause-search : goal.returns-clause-search
returns-clause-search c =
    expanding_end c.args.graph.now c.args.node c.args.seen.now c.args.stack.now.items c.loop-i.seen c.loop-i.stack.items
    c.successors-nodes.result.now c.loop-i.i c.loop-i.invariant.0 c.loop-i-test.false c.successors-nodes.ensures
