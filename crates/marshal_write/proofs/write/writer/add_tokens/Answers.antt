use Rattle.std.proofs.Common.{◌∙◌, ap, sym, subst}
use Rattle.marshal_spec.specs.format.Canonical.{data_encoding}
use Rattle.marshal_spec.specs.format.Isomorphism.{IsTreeOf}
use Rattle.marshal_spec.specs.format.Tree.{tokens}
use Rattle.marshal_write.specs.write.WriteStep.{token_in}
use Rattle.marshal_write.specs.write.WriteBuffer.{AddsAll}
use Rattle.marshal_write.proofs.write.WriterSumLemmas.{given_falls, all_taken}
use Rattle.marshal_write.proofs.write.WriterTextLemmas.{adds_if_failed, token_more, token_failed}
use Rattle.marshal_write.proofs.write.writer.add_tokens.Goals as goal

pub tokens-smaller : goal.tokens-smaller
tokens-smaller g c =
    given_falls c.args.heap.now c.tokens.walk c.next_again.new.self c.in-Some.step c.tokens.invariant.walk c.in-Some.ensures.walk c.in-Some.ensures.root c.in-Some.ensures.next

pub tokens-preserved : goal.tokens-preserved
tokens-preserved g c = record {
  walk = c.in-Some.ensures.walk;
  root = c.in-Some.ensures.root ∙ c.tokens.invariant.root;
  again = c.in-Some.ensures.again;
  adds = λ tree is_of.
      let at = subst (λ r. IsTreeOf c.args.heap.now r tree) c.in-Some.ensures.root is_of in
      let gave = c.in-Some.ensures.next tree at in
      token_more _ _ _ _ _ _ (tokens tree) (token_in c.args.heap.now c.in-Some.step) c.tokens.walk.given c.next_again.new.self.given gave.0 gave.1 (c.tokens.invariant.adds tree at) c.in_ok-add_step.ensures.adds;
  room = c.in_ok-add_step.ensures.room;
}

pub returns-in_err-add_step-clause-adds : goal.returns-in_err-add_step-clause-adds
returns-in_err-add_step-clause-adds g c = λ tree is_of.
    let at = subst (λ r. IsTreeOf c.args.heap.now r tree) (sym c.tokens.invariant.root) is_of in
    let gave = c.in-Some.ensures.next tree at in
    adds_if_failed _ _ _ _ _ c.from_residual.result c.from_residual.ensures.0
    (token_failed _ _ _ _ _ (tokens tree) (token_in c.args.heap.now c.in-Some.step) c.tokens.walk.given gave.0 (c.tokens.invariant.adds tree at) c.in_err-add_step.ensures.adds)

pub returns-clause-adds : goal.returns-clause-adds
returns-clause-adds g c = λ tree is_of.
    let at = subst (λ r. IsTreeOf c.args.heap.now r tree) (sym c.tokens.invariant.root) is_of in
    let end = c.in_default.ensures.next tree at in
    subst (AddsAll (g.K.Sink.state c.args.out.now) (g.K.Sink.state c.tokens.out) c.args.buffer.now.items c.tokens.buffer.items)
    (ap data_encoding (all_taken c.tokens.walk.given (tokens tree) end.0)) (c.tokens.invariant.adds tree at)
