use Rattle.types_resolve.proofs.occurrences.GroupLaws.{files_are_counted}
use Rattle.types_resolve.proofs.occurrences.laws.files_are_counted.Goals as goal

pub returns : goal.returns
returns c = files_are_counted
