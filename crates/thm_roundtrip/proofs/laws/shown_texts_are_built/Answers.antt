use Rattle.run_types.proofs.RunTypesGivenLemmas.{given_sound}
use Rattle.thm_roundtrip.proofs.BuiltLemmas.{shown_texts_are_built}
use Rattle.thm_roundtrip.proofs.laws.shown_texts_are_built.Goals as goal

pub returns : goal.returns
returns c =
    shown_texts_are_built c.commands_keep_run_spec.ensures.as_known
    c.building_is_lawful.ensures c.building_answers_once.ensures.outcome
    c.declared_texts_are_read_back.ensures (λ t given.
    let s = given_sound c.files_are_well_formed.ensures c.types_are_sound.ensures t given in
    record { ok = s.ok; sound = s.sound; few = s.few })
