-- The law for all commands follows from the law for `check --cert` and `verify`.
use Rattle.std.proofs.Common.{◌≡◌, Some, refl}
use Rattle.cli_spec.specs.CommandLine.{certify}
use Rattle.cli_spec.specs.Outcome.{Request, all_under, own, verify}
use Rattle.cmd_certify.specs.spec.Certification.{CertifyArguments, certified_by}
use Rattle.thm_certificates.specs.certified.CertifyThenVerify.{WrittenCertificatesAreAccepted}
use Rattle.session.specs.All.{on_certificates, on_certificates_after, on_certified, on_certified_after, all_commands, IsOfCertificates, IsOfSections, IsPart}
use Rattle.session.proofs.SessionPartLemmas.{part_at_once}

-- If a request asks to certify values, then the request is for `check --cert`.
of_sections : (request : Request) (asked : CertifyArguments) → certified_by request ≡ Some asked
    → IsOfSections request
of_sections (own (certify file type lines reading)) asked is = tt
of_sections request asked is = absurd (cc is)

pub all_confirm : IsPart on_certified_after IsOfSections
    → IsPart on_certificates_after IsOfCertificates
    → WrittenCertificatesAreAccepted on_certified on_certificates
    → WrittenCertificatesAreAccepted all_commands all_commands
all_confirm sections certificates law arguments call reports run_spec later_arguments later later_reports
    later_run_spec asked contents input certificate certifies verifies =
    let of = of_sections certifies.request asked certifies.is_asked in
    let request = own (verify asked.file asked.type.text verifies.name verifies.lines (all_under verifies.limit)) in
    law arguments call reports
    (part_at_once on_certified IsOfSections sections arguments call certifies.request certifies.asks of certifies.at_once run_spec)
    later_arguments later later_reports
    (part_at_once on_certificates IsOfCertificates certificates later_arguments later request verifies.asks tt refl later_run_spec)
    asked contents input certificate certifies verifies
