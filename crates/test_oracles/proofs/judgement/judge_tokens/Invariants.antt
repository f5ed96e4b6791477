use Rattle.std.proofs.Common.{length}
use Rattle.marshal_spec.proofs.format.FormatStandLemmas.{Stands}
use Rattle.test_oracles.proofs.judgement.judge_tokens.Given as goal

abbrev pub invariant-next : goal.invariant-next
invariant-next l = Stands l.limit l.bytes l.header l.tokens.items l.rest

abbrev pub decreases-next : goal.decreases-next
decreases-next l = length l.rest
