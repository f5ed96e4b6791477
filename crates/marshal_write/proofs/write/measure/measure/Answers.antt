use Rattle.std.proofs.Common.{◌∙◌, ap, subst, sym}
use Rattle.marshal_spec.specs.format.Isomorphism.{IsTreeOf}
use Rattle.marshal_spec.specs.format.Tree.{tokens}
use Rattle.marshal_write.specs.write.WriteStep.{IsNext}
use Rattle.marshal_write.specs.write.TokenSums.{plus, FitTotals, head_of_totals, totals_of}
use Rattle.marshal_write.proofs.write.WriterSumLemmas.{totals_next, totals_fit, given_falls, all_taken}
use Rattle.marshal_write.proofs.write.measure.measure.Goals as goal

pub add-requires : goal.add-requires
add-requires c =
    subst (λ x. FitTotals (plus c.tokens.totals x)) (sym c.step_totals.ensures)
    (totals_fit c.args.heap.now c.tokens.walk c.next.new.self c.in-Some.step c.tokens.totals c.tokens.invariant.walk
    (λ tree is_of. subst (λ o. IsNext c.args.heap.now (tokens tree) c.tokens.walk.given o c.next.new.self.given) c.in-Some.is (c.in_ok-step.ensures.next tree is_of))
    c.tokens.invariant.totals)

pub tokens-preserved : goal.tokens-preserved
tokens-preserved c = record {
  walk = c.in_ok-step.ensures.walk;
  root = c.in_ok-step.ensures.root ∙ c.tokens.invariant.root;
  totals = λ tree is_of.
      c.add.ensures ∙ ap (plus c.tokens.totals) c.step_totals.ensures
      ∙ totals_next c.args.heap.now c.tokens.walk c.next.new.self c.in-Some.step c.tokens.totals
      (λ tree is_of. subst (λ o. IsNext c.args.heap.now (tokens tree) c.tokens.walk.given o c.next.new.self.given) c.in-Some.is (c.in_ok-step.ensures.next tree is_of))
      c.tokens.invariant.totals tree (subst (λ r. IsTreeOf c.args.heap.now r tree) c.in_ok-step.ensures.root is_of);
}

pub tokens-smaller : goal.tokens-smaller
tokens-smaller c =
    given_falls c.args.heap.now c.tokens.walk c.next.new.self c.in-Some.step c.tokens.invariant.walk c.in_ok-step.ensures.walk c.in_ok-step.ensures.root
    (λ tree is_of. subst (λ o. IsNext c.args.heap.now (tokens tree) c.tokens.walk.given o c.next.new.self.given) c.in-Some.is (c.in_ok-step.ensures.next tree is_of))

pub returns-clause-head : goal.returns-clause-head
returns-clause-head c = λ tree is_of.
    let at = subst (λ r. IsTreeOf c.args.heap.now r tree) (sym c.tokens.invariant.root) is_of in
    let end = subst (λ o. IsNext c.args.heap.now (tokens tree) c.tokens.walk.given o c.next.new.self.given) c.in_default.is (c.in_ok-step.ensures.next tree at) in
    c.head.ensures ∙ ap head_of_totals (c.tokens.invariant.totals tree at ∙ ap totals_of (all_taken c.tokens.walk.given (tokens tree) end.0))

pub returns-clause-end : goal.returns-clause-end
returns-clause-end c = λ tree is_of.
    let at = subst (λ r. IsTreeOf c.args.heap.now r tree) (sym c.tokens.invariant.root) is_of in
    let end = subst (λ o. IsNext c.args.heap.now (tokens tree) c.tokens.walk.given o c.next.new.self.given) c.in_default.is (c.in_ok-step.ensures.next tree at) in end.1 ∙ end.0
