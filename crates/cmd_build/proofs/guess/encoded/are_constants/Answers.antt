use Rattle.std.proofs.Common.{rules, arith}
use Rattle.text_roundtrip.specs.literal_texts.Readable.{IsConstantName}
use Rattle.cmd_build.proofs.guess.GuessEncodedLemmas.{more_known, all_known}
use Rattle.cmd_build.proofs.guess.encoded.are_constants.Goals as goal

pub loop-i-init : goal.loop-i-init
loop-i-init c = (search rules, λ j name below at. absurd (omega (arith, below)))

pub loop-i-preserved : goal.loop-i-preserved
loop-i-preserved c = (
  c.loop-i.invariant.0,
  more_known (IsConstantName c.args.names.now) c.args.names.now.constants c.loop-i.i c.loop-i.invariant.1 (λ name at. c.is_constant.ensures c.if-not-is_constant.false name at),
)

pub returns : goal.returns
returns c is = all_known (IsConstantName c.args.names.now) c.args.names.now.constants c.loop-i.i (omega (arith, c.loop-i-test.false, c.loop-i.invariant.0)) c.loop-i.invariant.1
