-- The state of a parser that receives a certificate in chunks.
use Rattle.std.specs.Prelude.{ℕ, ◌≡◌, List, [], ◌++◌, length, Option, Some, None}
use Rattle.cert_format.specs.declared.certificate_reader.CertificateReading.{CertificateReading}
use Rattle.cert_format.specs.declared.certificate_reader.CertReader.{CertReader}
use Rattle.cert_format.specs.Format.{text_of, IsSyntaxAt}
use Rattle.cert_format.specs.CertificateReading.{lines_read, IsReading, IsAt}

abbrev pub Bytes : Type 0
Bytes = List ℕ

abbrev pub nothing : CertificateReading
nothing = record { whole = []; begun = None }

-- The bytes are the parsed lines, followed by the kept bytes.
pub record HasKept (reading : CertificateReading) (lines : ℕ) (kept bytes : List ℕ) : Type 0 where
  pub is : IsReading reading
  pub counted : lines ≡ length (lines_read reading)
  pub encoded : bytes ≡ text_of (lines_read reading) ++ kept

-- If there is no fault, all complete lines of the bytes were parsed, and the incomplete line is
-- kept. If there is a fault, the first faulty line is complete, and later bytes do not change which
-- line is the first faulty line.
abbrev pub HasComeTo : CertificateReading → ℕ → List ℕ → Option ℕ → List ℕ → Type 0
HasComeTo reading lines kept None bytes = IsAt bytes reading lines kept []
HasComeTo reading lines kept (Some n) bytes = (later : List ℕ) → IsSyntaxAt (bytes ++ later) n

abbrev pub HasCome : CertReader → List ℕ → Type 0
HasCome r bytes = HasComeTo r.reading r.lines r.kept.items r.fault bytes
