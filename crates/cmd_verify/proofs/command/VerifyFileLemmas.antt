-- Lemmas about the result of reading CERT.
use Rattle.std.proofs.Common.{◌≡◌, ℕ, List, Some, Ok, Err, inl, inr, refl, ap}
use Rattle.cert_format.specs.declared.certificate_reader.CertFault.{CertFault}
use Rattle.cert_format.specs.declared.certificate_reader.CertFault.TheVariants.{Syntax, Memory}
use Rattle.cert_format.specs.declared.section.Section.{Section}
use Rattle.cert_format.specs.Format.{IsCertificate}
use Rattle.cert_format.specs.CertificateReading.{IsFaultOf}
use Rattle.cli_spec.specs.Outcome.{at_end, Taken, opened, missing, failed, fault_of}
use Rattle.cli_spec.specs.declared.exit.Exit.{Exit}
use Rattle.cli_spec.specs.declared.exit.Exit.TheVariants.{CannotOpen as cannot_open}
use Rattle.cli_errors.specs.Exits.{IsOrMemory}
use Rattle.cmd_verify.specs.command.CertificateFile.{IsCertificateExit, GivesCertificate}

module _ (name : List ℕ) where
  pub certificate_missing :
      (exit : Exit) → IsOrMemory (cannot_open name) exit → GivesCertificate name missing (Err exit)
  certificate_missing exit (inl e) = inl (Err (cannot_open name), refl, ap Err e)
  certificate_missing exit (inr memory) = inr memory

  pub certificate_failed :
      (exit : Exit) → IsOrMemory (cannot_open name) exit → GivesCertificate name failed (Err exit)
  certificate_failed exit (inl e) = inl (Err (cannot_open name), refl, ap Err e)
  certificate_failed exit (inr memory) = inr memory

  module _ (taken : Taken) where
    pub certificate_fault :
        (exit : Exit) → fault_of taken.until ≡ Some exit
        → GivesCertificate name (opened taken) (Err exit)
    certificate_fault exit e = inl (Err exit, e, refl)

    abbrev all_taken :
        taken.until ≡ at_end → opened taken ≡ opened (record { bytes = taken.bytes; until = at_end })
    all_taken e = ap (λ u. opened (record { bytes = taken.bytes; until = u })) e

    pub certificate_read :
        taken.until ≡ at_end → (sections : List Section) → IsCertificate taken.bytes sections
        → GivesCertificate name (opened taken) (Ok sections)
    certificate_read e sections is = (Ok taken.bytes, all_taken e, is)

    pub certificate_refused :
        taken.until ≡ at_end → (fault : CertFault) → IsFaultOf taken.bytes fault → (exit : Exit)
        → IsCertificateExit fault exit → GivesCertificate name (opened taken) (Err exit)
    certificate_refused e (Syntax line) refused exit is =
        inl (Ok taken.bytes, all_taken e, (line, refused, is))
    certificate_refused e Memory refused exit is = inr is
