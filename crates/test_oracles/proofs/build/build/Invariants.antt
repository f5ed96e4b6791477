use Rattle.std.proofs.Common.{vec_len}
use Rattle.test_oracles.proofs.OracleGraphLemmas.{After}
use Rattle.test_oracles.proofs.build.build.Given as goal

abbrev pub invariant-next : goal.invariant-next
invariant-next l = After l.fn.tokens.items l.tokens.items l.values.items l.objects.items

abbrev pub decreases-next : goal.decreases-next
decreases-next l = vec_len l.tokens
