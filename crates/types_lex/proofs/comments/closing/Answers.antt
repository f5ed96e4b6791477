use Rattle.std.proofs.Common.{sym, ap, ◌∙◌, arith}
use Rattle.types_lex.specs.Lexer.{plus}
use Rattle.types_lex.proofs.CommentLaws.{opens, closes, ends, goes_on, closing-end}
use Rattle.types_lex.proofs.comments.closing.Goals as goal

pub loop-at-preserved-in-Opening : goal.loop-at-preserved-in-Opening
loop-at-preserved-in-Opening c = record {
  shallow = omega arith;
  inside = omega arith;
  rest = opens c.args.text.now c.loop-at.at c.loop-at.depth _ (omega arith) c.loop-at.invariant.rest c.in-Opening.ensures;
}

pub returns-then-depth-eq0-clause-value : goal.returns-then-depth-eq0-clause-value
returns-then-depth-eq0-clause-value c = ends c.args.text.now c.loop-at.at c.loop-at.depth _ (omega arith) c.loop-at.invariant.rest c.in-Closing.ensures c.if-depth-eq0.true

pub loop-at-preserved-in-Closing : goal.loop-at-preserved-in-Closing
loop-at-preserved-in-Closing c = record {
  shallow = omega arith;
  inside = omega arith;
  rest = closes c.args.text.now c.loop-at.at c.loop-at.depth _ (omega arith) c.loop-at.invariant.rest c.in-Closing.ensures c.if-depth-eq0.false;
}

pub loop-at-preserved : goal.loop-at-preserved
loop-at-preserved c = record {
  shallow = omega arith;
  inside = omega arith;
  rest = goes_on c.args.text.now c.loop-at.at c.loop-at.depth _ (omega arith) c.loop-at.invariant.rest c.in-Neither.ensures;
}

pub returns-clause-value : goal.returns-clause-value
returns-clause-value c = ap (plus c.loop-at.at) (sym (closing-end c.args.text.now c.loop-at.at c.loop-at.depth (omega arith))) ∙ c.loop-at.invariant.rest
