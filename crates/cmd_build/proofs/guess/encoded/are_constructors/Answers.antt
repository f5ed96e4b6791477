use Rattle.std.proofs.Common.{rules, arith}
use Rattle.text_roundtrip.specs.literal_texts.Readable.{IsConstructorName}
use Rattle.cmd_build.proofs.guess.GuessEncodedLemmas.{more_known, all_known}
use Rattle.cmd_build.proofs.guess.encoded.are_constructors.Goals as goal

pub loop-tag-init : goal.loop-tag-init
loop-tag-init c = (search rules, λ j constr below at. absurd (omega (arith, below)))

pub loop-tag-preserved : goal.loop-tag-preserved
loop-tag-preserved c = (
  c.loop-tag.invariant.0,
  more_known (IsConstructorName c.args.names.now) c.args.names.now.constructors c.loop-tag.tag c.loop-tag.invariant.1 (λ constr at. c.is_constructor.ensures c.if-not-is_constructor.false constr at),
)

pub returns : goal.returns
returns c is = all_known (IsConstructorName c.args.names.now) c.args.names.now.constructors c.loop-tag.tag (omega (arith, c.loop-tag-test.false, c.loop-tag.invariant.0)) c.loop-tag.invariant.1
