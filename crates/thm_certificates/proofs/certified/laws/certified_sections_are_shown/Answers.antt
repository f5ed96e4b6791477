use Rattle.run_types.proofs.RunTypesGivenLemmas.{given_sound}
use Rattle.thm_certificates.proofs.certified.CertifiedShownLemmas.{section_shown}
use Rattle.thm_certificates.proofs.certified.laws.certified_sections_are_shown.Goals as goal

pub returns : goal.returns
returns c = λ t given.
    let s = given_sound c.files_are_well_formed.ensures c.types_are_sound.ensures t given in
    section_shown c.reached_pairs_are_accepted.ensures.accepted c.answers_are_one.ensures.never_both
    c.tables_verify_agree.ensures c.tables_have_the_faults.ensures.all c.tables_decide.ensures.root
    c.tables_decide.ensures.decide t s.ok s.sound
