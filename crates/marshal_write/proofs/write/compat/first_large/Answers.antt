use Rattle.std.proofs.Common.{◌∙◌, sym, subst}
use Rattle.marshal_spec.specs.format.Compat.{is_large}
use Rattle.marshal_spec.specs.format.Isomorphism.{IsTreeOf}
use Rattle.marshal_spec.specs.format.Tree.{tokens}
use Rattle.marshal_write.specs.write.WriteStep.{token_in}
use Rattle.marshal_write.proofs.write.CompatLemmas.{find_more, found}
use Rattle.marshal_write.proofs.write.WriterSumLemmas.{given_falls}
use Rattle.marshal_write.proofs.write.compat.first_large.Goals as goal

pub returns-in-Some-step_compat-clause-large : goal.returns-in-Some-step_compat-clause-large
returns-in-Some-step_compat-clause-large c = λ tree is_of.
    let at = subst (λ r. IsTreeOf c.args.heap.now r tree) (sym c.tokens.invariant.root) is_of in
    let gave = c.in-Some.ensures.next tree at in
    found is_large c.tokens.walk.given (tokens tree) (token_in c.args.heap.now c.in-Some.step) c.in-Some-step_compat.compat (c.tokens.invariant.none tree at) gave.0 c.in-Some-step_compat.ensures

pub tokens-smaller : goal.tokens-smaller
tokens-smaller c =
    given_falls c.args.heap.now c.tokens.walk c.next_again.new.self c.in-Some.step c.tokens.invariant.walk c.in-Some.ensures.walk c.in-Some.ensures.root c.in-Some.ensures.next

pub tokens-preserved : goal.tokens-preserved
tokens-preserved c = record {
  walk = c.in-Some.ensures.walk;
  root = c.in-Some.ensures.root ∙ c.tokens.invariant.root;
  again = c.in-Some.ensures.again;
  none = λ tree is_of.
      let at = subst (λ r. IsTreeOf c.args.heap.now r tree) c.in-Some.ensures.root is_of in
      let gave = c.in-Some.ensures.next tree at in
      find_more is_large c.tokens.walk.given c.next_again.new.self.given (tokens tree) (token_in c.args.heap.now c.in-Some.step) (c.tokens.invariant.none tree at) gave.0 gave.1 c.in_default-step_compat.ensures;
}

pub returns-clause-end : goal.returns-clause-end
returns-clause-end c = λ none tree is_of.
    let at = subst (λ r. IsTreeOf c.args.heap.now r tree) (sym c.tokens.invariant.root) is_of in
    let end = c.in_default.ensures.next tree at in end.1 ∙ end.0
