use Rattle.std.proofs.Common.{subst}
use Rattle.marshal_codec.specs.token.Summary.{IsFair}
use Rattle.marshal_codec.proofs.token.summary.measure_of.Goals as goal

pub returns-in-Block-clause-countable : goal.returns-in-Block-clause-countable
returns-in-Block-clause-countable c = subst IsFair c.in-Block.is c.requires

pub returns-in-Bytes-clause-countable : goal.returns-in-Bytes-clause-countable
returns-in-Bytes-clause-countable c = subst IsFair c.in-Bytes.is c.requires

pub returns-in-Doubles-clause-countable : goal.returns-in-Doubles-clause-countable
returns-in-Doubles-clause-countable c = subst IsFair c.in-Doubles.is c.requires
