use Rattle.std.proofs.Common.{◌∙◌, subst, sym}
use Rattle.marshal_spec.specs.format.Isomorphism.{IsTreeOf}
use Rattle.marshal_spec.specs.format.Tree.{tokens}
use Rattle.marshal_write.specs.write.Marks.{marks_of}
use Rattle.marshal_write.specs.write.ObjectNumbers.{AreNumbered}
use Rattle.marshal_write.specs.write.WriteStep.{IsNext}
use Rattle.marshal_write.proofs.write.WriterEndLemmas.{all_numbered}
use Rattle.marshal_write.proofs.write.WriterSumLemmas.{given_falls}
use Rattle.marshal_write.proofs.write.object_numbers.number_objects.Goals as goal

pub tokens-preserved : goal.tokens-preserved
tokens-preserved c = record {
  walk = c.in_ok-_step.ensures.walk;
  root = c.in_ok-_step.ensures.root ∙ c.tokens.invariant.root;
}

pub tokens-smaller : goal.tokens-smaller
tokens-smaller c =
    given_falls c.args.heap.now c.tokens.walk c.next.new.self c.in-Some._step c.tokens.invariant.walk c.in_ok-_step.ensures.walk c.in_ok-_step.ensures.root
    (λ tree is_of. subst (λ o. IsNext c.args.heap.now (tokens tree) c.tokens.walk.given o c.next.new.self.given) c.in-Some.is (c.in_ok-_step.ensures.next tree is_of))

pub returns : goal.returns
returns c = λ tree is_of.
    let new_root = c.in_ok-_step.ensures.root ∙ c.tokens.invariant.root in
    let before = subst (λ r. IsTreeOf c.args.heap.now r tree) (sym c.tokens.invariant.root) is_of in
    let after = subst (λ r. IsTreeOf c.args.heap.now r tree) (sym new_root) is_of in
    let end = subst (λ o. IsNext c.args.heap.now (tokens tree) c.tokens.walk.given o c.next.new.self.given) c.in_default.is
    (c.in_ok-_step.ensures.next tree before) in
    let numbered = all_numbered c.args.heap.now c.next.new.self tree c.in_ok-_step.ensures.walk after (end.1 ∙ end.0) in
    subst (λ m. AreNumbered c.args.heap.now c.args.root tree (marks_of m)) (sym c.into_marks.ensures)
    (subst (λ r. AreNumbered c.args.heap.now r tree (marks_of c.next.new.self.marks)) new_root numbered)
