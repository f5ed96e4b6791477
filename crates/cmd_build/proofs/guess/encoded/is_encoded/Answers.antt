use Rattle.std.proofs.Common.{rules, arith}
use Rattle.cmd_build.proofs.guess.GuessEncodedLemmas.{encoded_more, encoded_there}
use Rattle.cmd_build.proofs.guess.encoded.is_encoded.Goals as goal

pub loop-i-init : goal.loop-i-init
loop-i-init c = (search rules, λ j below. absurd (omega (arith, below)))

pub loop-i-preserved : goal.loop-i-preserved
loop-i-preserved c = (
  c.loop-i.invariant.0,
  encoded_more c.args.table.now c.loop-i.i c.loop-i.invariant.1
      (encoded_there c.args.table.now c.loop-i.i c.shape.result.now c.names.result.now c.shape.ensures c.names.ensures
      (c.is_encoded_at.ensures c.if-not-is_encoded_at.false)),
)

pub returns : goal.returns
returns c is j below = c.loop-i.invariant.1 j (omega (arith, below, c.loop-i-test.false, c.loop-i.invariant.0))
