use Rattle.run_types.proofs.RunTypesGivenLemmas.{given_sound}
use Rattle.thm_certificates.proofs.certified.CertifiedAcceptedLemmas.{are_accepted}
use Rattle.thm_certificates.proofs.certified.laws.written_certificates_are_accepted.Goals as goal

pub returns : goal.returns
returns c =
    are_accepted c.certifying_keeps_run_spec.ensures.as_known c.verifying_is_lawful.ensures
    c.written_sections_are_certificates.ensures c.certified_sections_are_shown.ensures
    c.types_are_one_list.ensures (λ t given.
    (given_sound c.files_are_well_formed.ensures c.types_are_sound.ensures t given).few)
