use Rattle.types_wellformed.proofs.accepted.AcceptedLemmas.{sound_type}
use Rattle.types_wellformed.proofs.accepted.laws.accepted_types_are_sound.Goals as goal

pub returns : goal.returns
returns c decls occurrences t well proper type known keeps = sound_type decls occurrences t well proper type known keeps
