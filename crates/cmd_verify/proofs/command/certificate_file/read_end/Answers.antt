use Rattle.std.proofs.Common.{refl}
use Rattle.cmd_verify.specs.command.CertificateFile.{all_of}
use Rattle.cmd_verify.proofs.command.VerifyFileLemmas.{certificate_read, certificate_refused}
use Rattle.cmd_verify.proofs.command.certificate_file.read_end.Goals as goal

pub returns-in-Ok : goal.returns-in-Ok
returns-in-Ok c = λ name bytes come.
    certificate_read name (all_of bytes) refl c.in-Ok.sections (c.in-Ok.ensures.ok bytes come)

pub returns-in-Err : goal.returns-in-Err
returns-in-Err c = λ name bytes come.
    certificate_refused name (all_of bytes) refl c.in-Err.fault (c.in-Err.ensures.err bytes come)
    c.certificate_exit.result c.certificate_exit.ensures
