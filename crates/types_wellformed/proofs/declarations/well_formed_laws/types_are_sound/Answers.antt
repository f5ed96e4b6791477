use Rattle.types_wellformed.proofs.declarations.DeclarationSoundLemmas.{types_sound}
use Rattle.types_wellformed.proofs.declarations.well_formed_laws.types_are_sound.Goals as goal

pub returns : goal.returns
returns c decls tree well keeps = types_sound decls tree well keeps
