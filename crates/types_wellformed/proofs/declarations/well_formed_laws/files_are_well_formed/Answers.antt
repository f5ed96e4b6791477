use Rattle.types_wellformed.proofs.declarations.DeclarationFileLemmas.{files_well_formed}
use Rattle.types_wellformed.proofs.declarations.well_formed_laws.files_are_well_formed.Goals as goal

pub returns : goal.returns
returns c lexemes tree is keeps = files_well_formed lexemes tree is keeps
