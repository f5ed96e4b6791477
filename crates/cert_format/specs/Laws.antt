-- Laws of the format.
use Rattle.std.specs.Prelude.{ℕ, suc, ◌≡◌, List, [], ◌∷◌, ◌++◌}
use Rattle.cert_format.specs.declared.section.Section.{Section}
use Rattle.cert_format.specs.Format.{AreStated, section_text, IsCertificate, IsSyntaxAt}

-- A text is the certificate of at most one list of entries.
abbrev pub SectionsAreOne : Type 0
SectionsAreOne =
    (bytes : List ℕ) (all others : List Section) → IsCertificate bytes all
    → IsCertificate bytes others → all ≡ others

-- A certificate has no faulty line.
abbrev pub CertificatesHaveNoFault : Type 0
CertificatesHaveNoFault =
    (bytes : List ℕ) (all : List Section) (n : ℕ) → IsCertificate bytes all → ¬ IsSyntaxAt bytes n

-- A text has at most one first faulty line.
abbrev pub FaultsAreOne : Type 0
FaultsAreOne = (bytes : List ℕ) (m n : ℕ) → IsSyntaxAt bytes m → IsSyntaxAt bytes n → m ≡ n

-- The texts of entries, one after another. The first entry has number `k`.
abbrev pub texts_from : ℕ → List Section → List ℕ
texts_from k [] = []
texts_from k (section ∷ more) = section_text k section ++ texts_from (suc k) more

-- The texts of entries, one after another, form a certificate.
abbrev pub WrittenSectionsAreCertificates : Type 0
WrittenSectionsAreCertificates =
    (all : List Section) → AreStated all → IsCertificate (texts_from 0 all) all
