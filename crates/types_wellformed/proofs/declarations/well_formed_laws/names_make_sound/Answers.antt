use Rattle.types_wellformed.proofs.declarations.DeclarationFileLemmas.{names_sound}
use Rattle.types_wellformed.proofs.declarations.well_formed_laws.names_make_sound.Goals as goal

pub returns : goal.returns
returns c lexemes tree is keeps = names_sound lexemes tree is keeps
