use Rattle.std.proofs.Common.{sym, arith}
use Rattle.marshal_spec.proofs.format.FormatKindLemmas.{past_the_table}
use Rattle.marshal_codec.proofs.codes.kind_of_code.large_kind.Goals as goal

pub returns-in-26-to-255 : goal.returns-in-26-to-255
returns-in-26-to-255 c = sym (past_the_table c.args.code (omega arith) (omega arith))
