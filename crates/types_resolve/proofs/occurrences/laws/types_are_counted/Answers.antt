use Rattle.types_resolve.proofs.occurrences.TypeLaws.{types_are_counted}
use Rattle.types_resolve.proofs.occurrences.laws.types_are_counted.Goals as goal

pub returns : goal.returns
returns c = types_are_counted
