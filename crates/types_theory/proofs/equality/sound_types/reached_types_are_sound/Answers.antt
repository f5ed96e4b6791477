use Rattle.types_theory.proofs.equality.EqualitySoundLemmas.{all_reached_sound, known_by_hash}
use Rattle.types_theory.proofs.equality.sound_types.reached_types_are_sound.Goals as goal

pub returns-clause-sound : goal.returns-clause-sound
returns-clause-sound c decls t types well s reached u among =
    all_reached_sound decls well t s types reached u among

pub returns-clause-hashed : goal.returns-clause-hashed
returns-clause-hashed c decls t types well s reached =
    known_by_hash decls well t s types reached
