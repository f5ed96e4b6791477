use Rattle.std.proofs.Common.{subst}
use Rattle.std.proofs.lemmas.Result.{err_from_is_err_and}
use Rattle.cert_format.specs.declared.certificate_reader.CertificateReading.{CertificateReading}
use Rattle.cert_format.specs.CertificateReading.{IsFaultFrom}
use Rattle.cert_format.proofs.ComingLemmas.{fault_from_nothing}
use Rattle.cert_format.proofs.certificate_reader.read_cert.Goals as goal

pub returns-in_err-reading-clause-err : goal.returns-in_err-reading-clause-err
returns-in_err-reading-clause-err c =
    let p = err_from_is_err_and c.from_residual.result c.from_residual.ensures.1 in
    rw (p.1, p.2)
    (fault_from_nothing c.args.bytes.now c.in_err-reading.field-0.0
    (subst (λ (r : CertificateReading). IsFaultFrom r c.args.bytes.now c.in_err-reading.field-0.0) c.nothing_read.ensures c.in_err-reading.ensures.err))
