-- The state of the parser of certificates.
use Rattle.std.specs.Prelude.{ℕ, ◌+◌, ◌≤◌, ◌≡◌, ◌≢◌, ◌⊎◌, List, [], ◌∷◌, ◌++◌, length, Option, Some}
use Rattle.std.specs.Prelude.{None}
use Rattle.std.specs.Prelude.{IfSome, All, codes, decimal, Contains}
use Rattle.base_data.specs.model.PathText.{path_text, steps_text}
use Rattle.cert_format.specs.declared.section.Section.{Section}
use Rattle.cert_format.specs.declared.section.Section.TheVariants as sections
use Rattle.cert_format.specs.declared.certificate_reader.CertFault.{CertFault}
use Rattle.cert_format.specs.declared.certificate_reader.CertFault.TheVariants as faults
use Rattle.cert_format.specs.declared.certificate_reader.CertificateReading.{CertificateReading}
use Rattle.cert_format.specs.Increasing.{IsAbove}
use Rattle.cert_format.specs.CertificateNumbers.{IsNumber}
use Rattle.cert_format.specs.Format.{IsStated, AreStated, pair_line, pair_lines, verdict_text}
use Rattle.cert_format.specs.Format.{head_line, lines_from, text_of, ArePrefix, IsSyntaxAt}

-- ---- parts of a line

-- The bytes are empty or begin with `at`.
abbrev pub BeginsAt : ℕ → List ℕ → Type 0
BeginsAt at bytes = (bytes ≡ []) ⊎ ((rest : List ℕ) × (bytes ≡ at ∷ rest))

-- `prefix` is the bytes before the first occurrence of `at`, and `rest` is the other bytes.
pub record IsCut (bytes : List ℕ) (at : ℕ) (prefix rest : List ℕ) : Type 0 where
  pub whole : bytes ≡ prefix ++ rest
  pub none : ¬ Contains prefix at
  pub begins : BeginsAt at rest

-- ---- lines

abbrev pub AreNumbers : ℕ × ℕ → Type 0
AreNumbers pair = IsNumber pair.0 × IsNumber pair.1

abbrev pub IsPairLine : List ℕ → ℕ × ℕ → Type 0
IsPairLine line pair = AreNumbers pair × (line ≡ pair_line pair)

abbrev pub IsNoPairLine : List ℕ → Type 0
IsNoPairLine line = (pair : ℕ × ℕ) → ¬ IsPairLine line pair

abbrev pub IsPathText : List ℕ → List ℕ → Type 0
IsPathText text path = All IsNumber path × (text ≡ path_text path)

abbrev pub IsNoPathText : List ℕ → Type 0
IsNoPathText text = (path : List ℕ) → ¬ IsPathText text path

abbrev pub IsStepsText : List ℕ → List ℕ → Type 0
IsStepsText text steps = All IsNumber steps × (text ≡ steps_text steps)

abbrev pub IsNoStepsText : List ℕ → Type 0
IsNoStepsText text = (steps : List ℕ) → ¬ IsStepsText text steps

-- The text begins with a step. After the step, another step follows or the text ends.
pub record IsStep (text : List ℕ) (step : ℕ) (rest : List ℕ) : Type 0 where
  pub number : IsNumber step
  pub encoded : text ≡ codes "." ++ (decimal step ++ rest)
  pub begins : BeginsAt 46 rest

abbrev pub IsNoStep : List ℕ → Type 0
IsNoStep text = (step : ℕ) (rest : List ℕ) → ¬ IsStep text step rest

-- The text is the verdict of an entry without pairs.
pub record IsVerdict (text : List ℕ) (section : Section) : Type 0 where
  pub stated : IsStated section
  pub encoded : text ≡ verdict_text section
  pub no_pair : pair_lines section ≡ []

abbrev pub IsNoVerdict : List ℕ → Type 0
IsNoVerdict text = (section : Section) → IsStated section → text ≢ verdict_text section

-- The line is the first line of entry `k`, which has no pairs yet.
pub record IsHead (k : ℕ) (line : List ℕ) (section : Section) : Type 0 where
  pub number : IsNumber k
  pub stated : IsStated section
  pub encoded : line ≡ head_line k section
  pub no_pair : pair_lines section ≡ []

abbrev pub IsNoHead : ℕ → List ℕ → Type 0
IsNoHead k line = IsNumber k → (section : Section) → IsStated section → line ≢ head_line k section

-- ---- entries

-- The line is that of a pair, and `longer` is the entry with this additional pair.
pub record HasOneMore (section : Section) (line : List ℕ) (longer : Section) : Type 0 where
  pub stated : IsStated longer
  pub encoded : pair_lines longer ≡ pair_lines section ++ line ∷ []
  pub same : verdict_text longer ≡ verdict_text section

-- The line does not add a pair to the entry.
abbrev pub HasNoMore : Section → List ℕ → Type 0
HasNoMore (sections.Pairs pairs) line = (pair : ℕ × ℕ) → IsAbove pairs pair → ¬ IsPairLine line pair
HasNoMore (sections.Mismatch path) line = Unit {0}
HasNoMore (sections.Conflict first second) line = Unit {0}

-- The lines of an open entry.
abbrev pub open_lines : ℕ → Option Section → List (List ℕ)
open_lines k None = []
open_lines k (Some section) = head_line k section ∷ pair_lines section

-- The lines that were parsed so far.
abbrev pub lines_read : CertificateReading → List (List ℕ)
lines_read reading = lines_from 0 reading.whole ++ open_lines (length reading.whole) reading.begun

pub record IsReading (reading : CertificateReading) : Type 0 where
  pub stated : AreStated reading.whole
  pub opened : IfSome reading.begun (λ section. IsStated section × IsNumber (length reading.whole))

-- The state `next` is the state after one more line.
pub record GoesOnByLine (reading : CertificateReading) (line : List ℕ)
    (next : CertificateReading) : Type 0 where
  pub is : IsReading next
  pub lines : lines_read next ≡ lines_read reading ++ line ∷ []

-- No certificate continues with the line.
abbrev pub GoesNowhere : CertificateReading → List ℕ → Type 0
GoesNowhere reading line = ¬ ArePrefix (lines_read reading ++ line ∷ [])

-- A syntax fault is at the first faulty line. For the fault that memory ran out, nothing is
-- specified.
abbrev pub IsFaultOf : List ℕ → CertFault → Type 0
IsFaultOf bytes (faults.Syntax n) = IsSyntaxAt bytes n
IsFaultOf bytes faults.Memory = Unit {0}

-- The state of the parser: some lines were parsed, and `line` is the next line. If `rest` is not
-- empty, `line` is complete.
pub record IsAt (bytes : List ℕ) (reading : CertificateReading) (lines : ℕ)
    (line rest : List ℕ) : Type 0 where
  pub is : IsReading reading
  pub counted : lines ≡ length (lines_read reading)
  pub few : lines + length rest ≤ length bytes
  pub encoded : bytes ≡ text_of (lines_read reading) ++ (line ++ rest)
  pub none : ¬ Contains line 10
  pub begins : BeginsAt 10 rest

-- The first faulty line after the parsed lines is complete. So the first faulty line stays the
-- first one of the whole text, whatever bytes follow.
abbrev pub IsFaultFrom : CertificateReading → List ℕ → CertFault → Type 0
IsFaultFrom reading text (faults.Syntax n) =
    (later : List ℕ)
    → IsSyntaxAt ((text_of (lines_read reading) ++ text) ++ later) (length (lines_read reading) + n)
IsFaultFrom reading text faults.Memory = Unit {0}
