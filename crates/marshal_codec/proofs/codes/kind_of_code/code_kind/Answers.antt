use Rattle.std.proofs.Common.{subst, sym}
use Rattle.marshal_spec.proofs.format.FormatKindLemmas.{InRange, kind_of-in_range}
use Rattle.marshal_codec.proofs.codes.kind_of_code.code_kind.Goals as goal

pub returns-in_default-clause-known : goal.returns-in_default-clause-known
returns-in_default-clause-known c = subst InRange (sym c.large_kind.ensures) (kind_of-in_range c.args.code)
