-- The result of reading the file CERT.
use Rattle.std.specs.Prelude.{ℕ, ◌≡◌, ◌⊎◌, List, Some, Result, Ok, Err}
use Rattle.cert_format.specs.declared.certificate_reader.CertReader.{CertReader}
use Rattle.cert_format.specs.declared.certificate_reader.CertFault.{CertFault}
use Rattle.cert_format.specs.declared.certificate_reader.CertFault.TheVariants.{Syntax, Memory}
use Rattle.cert_format.specs.declared.section.Section.{Section}
use Rattle.cert_format.specs.Coming.{HasCome}
use Rattle.base_io.specs.StreamState.{SourceState, FilesState, Change}
use Rattle.cli_spec.specs.Outcome.{Taken, Found, opened, at_end, fault_of}
use Rattle.cli_spec.specs.declared.exit.Exit.{Exit}
use Rattle.cli_spec.specs.declared.exit.Exit.TheVariants.{Certificate as certificate_line}
use Rattle.cli_spec.specs.declared.exit.Exit.TheVariants.{Memory as out_of_memory}
use Rattle.run_spec.specs.runs.Given.{Gathers, Fetched}
use Rattle.cmd_verify.specs.spec.Verification.{ReadsCertificateOf}
use Rattle.cmd_verify.specs.command.VerifiedSections.{reads_sections}

-- If a line of CERT is wrong, the exit reason reports the line. If memory ran out, the exit reason
-- reports that memory ran out.
abbrev pub IsCertificateExit : CertFault → Exit → Type 0
IsCertificateExit (Syntax line) exit = exit ≡ certificate_line line
IsCertificateExit Memory exit = exit ≡ out_of_memory

-- The result contains the certificate entries of the file, or the exit reason if the file has no
-- entries. The exit reason may also be that memory ran out.
abbrev pub GivesCertificate : List ℕ → Found → Result (List Section) Exit → Type 0
GivesCertificate name found (Ok sections) =
    ReadsCertificateOf reads_sections (λ name. found) name (Ok sections)
GivesCertificate name found (Err exit) =
    ReadsCertificateOf reads_sections (λ name. found) name (Err exit)
    ⊎ (exit ≡ out_of_memory)

abbrev pub FindsCertificateIn : Change FilesState → List ℕ → Result (List Section) Exit → Type 0
FindsCertificateIn files name result =
    (found : Found) × Fetched files name found × GivesCertificate name found result

-- ---- while the bytes of CERT arrive

-- The bytes, taken up to the end of the source.
abbrev pub all_of : List ℕ → Taken
all_of bytes = record { bytes = bytes; until = at_end }

-- If the result is `Ok`, all bytes of the source were passed to the reader. If the result is an
-- exit reason, the exit reason states why no more bytes were taken.
abbrev pub ComesWhole : Change SourceState → CertReader → Result (Unit {0}) Exit → Type 0
ComesWhole source reader (Ok done) =
    (bytes : List ℕ) × Gathers source (all_of bytes) × HasCome reader bytes
ComesWhole source reader (Err exit) =
    (taken : Taken) × Gathers source taken
    × ((fault_of taken.until ≡ Some exit) ⊎ (exit ≡ out_of_memory))

-- The bytes taken from the source determine the entries or the exit reason, for every name of the
-- file.
abbrev pub TakesCertificate : Change SourceState → Result (List Section) Exit → Type 0
TakesCertificate source result =
    (taken : Taken) × Gathers source taken
    × ((name : List ℕ) → GivesCertificate name (opened taken) result)
