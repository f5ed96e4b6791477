use Rattle.std.proofs.Common.{subst, sym}
use Rattle.marshal_spec.proofs.format.FormatKindLemmas.{InRange, kind_of-in_range}
use Rattle.test_oracles.proofs.code.kind_of.Goals as goal

pub returns-clause-known : goal.returns-clause-known
returns-clause-known c = subst InRange (sym c.large_kind.ensures) (kind_of-in_range c.args.code)
