use Rattle.std.proofs.Common.{sym, arith}
use Rattle.marshal_spec.proofs.format.FormatKindLemmas.{past_the_table}
use Rattle.test_oracles.proofs.code.large_kind.Goals as goal

pub returns-in_default : goal.returns-in_default
returns-in_default c = sym (past_the_table c.args.code (omega arith) (omega arith))
