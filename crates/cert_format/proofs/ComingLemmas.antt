-- A certificate that is received in chunks.
use Rattle.std.proofs.Common.{ℕ, ◌+◌, ◌≤◌, ◌≡◌, ◌∙◌, inl, false, List, [], ◌++◌, length, Option, Some, None, refl, sym, ap, subst, arith, zero-add, length-append, append_assoc}
use Rattle.std.specs.Prelude.{Contains, is_some}
use Rattle.std.proofs.lemmas.List.{append-nil}
use Rattle.std.proofs.lemmas.List.Elements.{All-nil}
use Rattle.cert_format.specs.declared.certificate_reader.CertFault.{CertFault}
use Rattle.cert_format.specs.declared.certificate_reader.CertFault.TheVariants as faults
use Rattle.cert_format.specs.declared.certificate_reader.CertificateReading.{CertificateReading}
use Rattle.cert_format.specs.Format.{IsStated, text_of, IsSyntaxAt}
use Rattle.cert_format.specs.CertificateReading.{IsCut, lines_read, IsReading, IsAt, IsFaultOf, IsFaultFrom}
use Rattle.cert_format.specs.Coming.{nothing, HasKept, HasComeTo}
use Rattle.cert_format.proofs.CutLemmas.{lacks_append}
use Rattle.cert_format.proofs.CertificateReadLemmas.{lines_few}
use Rattle.base_data.proofs.model.Options.{Contains-none}

-- The state before the first byte.
pub nothing_is : IsReading nothing
nothing_is = record { stated = record { stated = All-nil IsStated; few = omega arith }; opened = tt }

pub begins : HasComeTo nothing 0 [] None []
begins = record {
  is = nothing_is;
  counted = refl;
  few = omega arith;
  encoded = refl;
  none = Contains-none 10;
  begins = inl refl;
}

-- A fault after the initial state is a fault of the bytes.
pub fault_from_nothing : (bytes : List ℕ) (fault : CertFault) → IsFaultFrom nothing bytes fault → IsFaultOf bytes fault
fault_from_nothing bytes (faults.Syntax n) at =
    subst (λ (b : List ℕ). IsSyntaxAt b n) (append-nil bytes)
    (subst (λ (k : ℕ). IsSyntaxAt (bytes ++ []) k) (zero-add n) (at []))
fault_from_nothing bytes faults.Memory at = tt

-- If the part after the first line feed is empty, then no line ends in the chunk.
pub cut_lacks : (chunk prefix rest : List ℕ) → IsCut chunk 10 prefix rest → rest ≡ [] → ¬ Contains chunk 10
cut_lacks chunk prefix rest cut none =
    subst (λ (z : List ℕ). ¬ Contains z 10) (sym (cut.whole ∙ (ap (λ (z : List ℕ). prefix ++ z) none ∙ append-nil prefix))) cut.none

-- If a fault is stored, then the stored fault is the fault of the bytes.
pub fault_known : (reading : CertificateReading) (lines : ℕ) (kept bytes : List ℕ) (fault : Option ℕ) (n : ℕ) → fault ≡ Some n
    → HasComeTo reading lines kept fault bytes → IsSyntaxAt bytes n
fault_known reading lines kept bytes fault n is at = subst (λ (b : List ℕ). IsSyntaxAt b n) (append-nil bytes) (known []) where
  known : HasComeTo reading lines kept (Some n) bytes
  known = subst (λ (o : Option ℕ). HasComeTo reading lines kept o bytes) is at

module _ (reading : CertificateReading) (lines : ℕ) (kept bytes chunk : List ℕ) where
  -- If no line ends in the chunk, then the chunk is appended to the kept bytes.
  pub kept_more : ¬ Contains chunk 10 → HasComeTo reading lines kept None bytes
      → HasComeTo reading lines (kept ++ chunk) None (bytes ++ chunk)
  kept_more lacks at = record {
    is = at.is;
    counted = at.counted;
    few = let few = at.few in let both = length-append bytes chunk in omega (arith, few, both);
    encoded = whole at ∙ sym (ap (λ (z : List ℕ). text_of (lines_read reading) ++ z) (append-nil (kept ++ chunk)));
    none = lacks_append kept chunk 10 at.none lacks;
    begins = inl refl;
  } where
    whole : IsAt bytes reading lines kept [] → bytes ++ chunk ≡ text_of (lines_read reading) ++ (kept ++ chunk)
    whole at =
        ap (λ (z : List ℕ). z ++ chunk) (at.encoded ∙ ap (λ (z : List ℕ). text_of (lines_read reading) ++ z) (append-nil kept))
        ∙ append_assoc (text_of (lines_read reading)) kept chunk

  pub kept_longer :
      (fault : Option ℕ) (longer : List ℕ) → is_some fault ≡ false → longer ≡ kept ++ chunk → ¬ Contains chunk 10
      → HasComeTo reading lines kept fault bytes → HasComeTo reading lines longer fault (bytes ++ chunk)
  kept_longer None longer none is lacks at =
      subst (λ (k : List ℕ). HasComeTo reading lines k None (bytes ++ chunk)) (sym is) (kept_more lacks at)
  kept_longer (Some n) longer none is lacks at = absurd (cc none)

module _ (reading : CertificateReading) (lines : ℕ) (kept bytes : List ℕ) (has : HasKept reading lines kept bytes) where
  -- If lines of the kept bytes were parsed, then the invariant holds for the new state.
  pub came : (next : CertificateReading) (many : ℕ) (line : List ℕ)
      → IsAt (text_of (lines_read reading) ++ kept) next (length (lines_read reading) + many) line []
      → HasComeTo next (lines + many) line None bytes
  came next many line at =
      subst (λ (b : List ℕ). IsAt b next (lines + many) line []) (sym has.encoded)
      (subst (λ (k : ℕ). IsAt (text_of (lines_read reading) ++ kept) next (k + many) line []) (sym has.counted) at)

  -- If one of the kept lines is faulty, then the invariant holds with the fault of that line.
  pub came_fault : (n : ℕ) → IsFaultFrom reading kept (faults.Syntax n) → (next : CertificateReading) (left : ℕ) (line : List ℕ)
      → HasComeTo next left line (Some (lines + n)) bytes
  came_fault n at next left line = λ later.
      subst (λ (b : List ℕ). IsSyntaxAt (b ++ later) (lines + n)) (sym has.encoded)
      (subst (λ (k : ℕ). IsSyntaxAt ((text_of (lines_read reading) ++ kept) ++ later) (k + n)) (sym has.counted) (at later))

  -- The number of the faulty line is at most the number of bytes plus one.
  pub fault_few : (from : CertificateReading) (text : List ℕ) (n : ℕ) → from ≡ reading → text ≡ kept → IsFaultFrom from text (faults.Syntax n)
      → lines + n ≤ length bytes + 1
  fault_few from text n same-reading same-text at = few_of (came_fault n own reading lines kept []) where
    own : IsFaultFrom reading kept (faults.Syntax n)
    own =
        subst (λ (r : CertificateReading). IsFaultFrom r kept (faults.Syntax n)) same-reading
        (subst (λ (t : List ℕ). IsFaultFrom from t (faults.Syntax n)) same-text at)

    few_of : IsSyntaxAt (bytes ++ []) (lines + n) → lines + n ≤ length bytes + 1
    few_of syntax =
        let within = syntax.within in
        let prefix = lines_few syntax.lines in
        let same = ap length syntax.are.whole in
        let left = length-append bytes [] in
        let right = length-append (text_of syntax.lines) syntax.rest in
        omega (arith, within, prefix, same, left, right)
