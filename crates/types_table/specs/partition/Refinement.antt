-- Partition refinement, one class at a time.
use Rattle.std.specs.Prelude.{ℕ, ◌≡◌, ◌≢◌, ◌<◌, ◌≤◌, ◌⊎◌, List, length, Some, slice_get}
use Rattle.std.specs.Prelude.{slice_index, Contains}
use Rattle.std.specs.List.{AllZip}
use Rattle.std.specs.Global.{Vec}
use Rattle.types_spec.specs.declared.types.head.HeadOf.{HeadOf}
use Rattle.types_spec.specs.types.Table.{head_at}
use Rattle.types_spec.specs.types.Classes.{PartsBelow, KeepsTogether}
use Rattle.types_table.specs.partition.Form.{AreForms}
use Rattle.types_table.specs.store.Held.{AreDistinct, Grows}
use Rattle.types_table.specs.declared.partition.class_inspection.Inspection.{Inspection}
use Rattle.types_table.specs.declared.partition.head_form.HeadForm.{HeadForm}
use Rattle.types_table.specs.partition.Lists.{Has}
use Rattle.types_table.specs.partition.Signature.{IsSignature}

-- ---- pending numbers

-- Each class with pending numbers is in `todo`.
pub record IsReady (waiting : List (Vec ℕ)) (todo : List ℕ) : Type 0 where
  pub has : (d y : ℕ) → Has waiting d y → Contains todo d
  pub within : (d : ℕ) → Contains todo d → d < length waiting

-- If an inspected number left the class, then the users of the number are pending.
abbrev pub MarksUsers : List ℕ → List (Vec ℕ) → ℕ → List ℕ → List (Vec ℕ) → Type 0
MarksUsers class users left inspected waiting =
    (i u : ℕ) → Contains inspected i → slice_index class i ≢ left → Has users i u
    → Has waiting (slice_index class u) u

-- ---- signatures

-- The signature of number `i` is `s`.
abbrev pub IsSignatureOf : List HeadForm → (ℕ → ℕ) → ℕ → List ℕ → Type 0
IsSignatureOf forms class i s =
    (form : HeadForm) × (slice_get forms i ≡ Some form) × IsSignature class form s

-- The signature of class `d` is `s`.
abbrev pub SignatureAt : List (Vec ℕ) → ℕ → List ℕ → Type 0
SignatureAt signatures d s = (v : Vec ℕ) × (slice_get signatures d ≡ Some v) × (v.items ≡ s)

-- The signature at index `p` is the signature of number `i`.
abbrev pub SignedAt : List HeadForm → (ℕ → ℕ) → List (List ℕ) → ℕ → ℕ → Type 0
SignedAt forms class found i p =
    (s : List ℕ) × (slice_get found p ≡ Some s) × IsSignatureOf forms class i s

-- The `k`-th index is the index of the signature of the `k`-th number.
abbrev pub AreSigned : List HeadForm → (ℕ → ℕ) → List (List ℕ) → List ℕ → List ℕ → Type 0
AreSigned forms class found = AllZip (SignedAt forms class found)

-- Each index of a signature has a class with the signature. The index `kept` has the class
-- `parted`, which is being split, and each other index has a new class.
pub record AreNamed (found : List (List ℕ)) (parted kept : ℕ) (numbers : List ℕ)
    (old new : List (Vec ℕ)) : Type 0 where
  pub many : length numbers ≡ length found
  pub more : length old ≤ length new
  pub signatures : (p d : ℕ) (s : List ℕ) → slice_get found p ≡ Some s
      → slice_get numbers p ≡ Some d
      → SignatureAt new d s
  pub fresh : (p d : ℕ) → slice_get numbers p ≡ Some d
      → ((d ≡ parted) ⊎ (length old ≤ d)) × (d < length new)
  pub kept_is : (d : ℕ) → slice_get numbers kept ≡ Some d → d ≡ parted
  pub others : (d : ℕ) (s : List ℕ) → d ≢ parted → SignatureAt old d s → SignatureAt new d s

-- The signatures at indices below `below` have classes.
pub record NamedSoFar (found : List (List ℕ)) (parted kept below : ℕ) (numbers : List ℕ)
    (old new : List (Vec ℕ))
    : Type 0 where
  pub many : length numbers ≡ below
  pub grown : Grows old new
  pub signatures :
      (p d : ℕ) (s : List ℕ) → p ≢ kept → slice_get found p ≡ Some s → slice_get numbers p ≡ Some d
      → (length old ≤ d) × SignatureAt new d s
  pub kept_is : (d : ℕ) → slice_get numbers kept ≡ Some d → d ≡ parted

-- ---- moves

-- Number `i` occurs among the first `below` inspected numbers, with a signature that has class `d`.
pub record IsPlaced (inspected positions numbers : List ℕ) (below i d : ℕ) : Type 0 where
  pub at : ℕ
  pub position : ℕ
  pub before : at < below
  pub inspected_at : slice_get inspected at ≡ Some i
  pub placed : slice_get positions at ≡ Some position
  pub named : slice_get numbers position ≡ Some d

-- Each of the first `below` inspected numbers has the class of its signature. Every number that is
-- not among them has its old class.
abbrev pub AreMoved : List ℕ → List ℕ → List ℕ → ℕ → List ℕ → List ℕ → Type 0
AreMoved inspected positions numbers below old new =
    (i : ℕ) → IsPlaced inspected positions numbers below i (slice_index new i)
    ⊎ (((k : ℕ) → k < below → slice_get inspected k ≢ Some i)
    × (slice_index new i ≡ slice_index old i))

-- If an inspected number left the class, then the number is a member of its new class.
abbrev pub HasMembers : List ℕ → ℕ → List ℕ → List (Vec ℕ) → Type 0
HasMembers class left inspected members =
    (i : ℕ) → Contains inspected i → slice_index class i ≢ left
    → Has members (slice_index class i) i

-- ---- inspected numbers

-- Inspected members of the class `wanted`, with the indices of their signatures. A member that is
-- not inspected has the kept signature.
pub record IsInspection (forms : List HeadForm) (class : List ℕ) (wanted : ℕ)
    (inspect : Inspection) : Type 0 where
  pub is : (i : ℕ) → Contains inspect.inspected.items i
      → (i < length class) × (slice_index class i ≡ wanted)
  pub covers :
      (i : ℕ) → i < length class → slice_index class i ≡ wanted
      → Contains inspect.inspected.items i
      ⊎ SignedAt forms (slice_index class) inspect.found i inspect.kept
  pub signed : AreSigned forms
      (slice_index class) inspect.found inspect.inspected.items inspect.positions.items
  pub distinct : AreDistinct inspect.found
  pub within : inspect.kept < length inspect.found

-- ---- the state of the refinement

-- The invariant between turns: each number is pending or has the signature of its class.
pub record IsUnderWay (forms : List HeadForm) (class : List ℕ)
    (signatures members waiting : List (Vec ℕ))
    (todo : List ℕ)
    : Type 0 where
  pub many : length class ≡ length forms
  pub within : (i : ℕ) → slice_index class i < length signatures
  pub rooms : length members ≡ length signatures
  pub waits : length waiting ≡ length signatures
  pub has : (i : ℕ) → i < length class → Has members (slice_index class i) i
  pub settled :
      (i : ℕ) → i < length class → Has waiting (slice_index class i) i
      ⊎ ((s : List ℕ) × SignatureAt signatures (slice_index class i) s
      × IsSignatureOf forms (slice_index class) i s)
  pub ready : IsReady waiting todo

-- The invariant while the class `parted` is split. A number of another class is pending or has the
-- signature of its class. A member of `parted` was pending (in `waited`) or has the signature of
-- the class.
pub record IsOpen (forms : List HeadForm) (class : List ℕ)
    (signatures members waiting : List (Vec ℕ))
    (todo waited : List ℕ)
    (parted : ℕ) : Type 0 where
  pub many : length class ≡ length forms
  pub inside : parted < length signatures
  pub within : (i : ℕ) → slice_index class i < length signatures
  pub rooms : length members ≡ length signatures
  pub waits : length waiting ≡ length signatures
  pub has : (i : ℕ) → i < length class → Has members (slice_index class i) i
  pub here :
      (i : ℕ) → i < length class → slice_index class i ≡ parted → Contains waited i
      ⊎ ((s : List ℕ) × SignatureAt signatures parted s
      × IsSignatureOf forms (slice_index class) i s)
  pub settled :
      (i : ℕ) → i < length class → slice_index class i ≢ parted
      → Has waiting (slice_index class i) i
      ⊎ ((s : List ℕ) × SignatureAt signatures (slice_index class i) s
      × IsSignatureOf forms (slice_index class) i s)
  pub ready : IsReady waiting todo

-- If two equal numbers had the same class before, then they have the same class after.
abbrev pub PartsNoEqual : List HeadForm → List ℕ → List ℕ → Type 0
PartsNoEqual forms old new =
    (all : List (HeadOf ℕ)) → AreForms all forms → PartsBelow (length all) (head_at all)
    → KeepsTogether (length all) (head_at all) (slice_index old)
    → KeepsTogether (length all) (head_at all) (slice_index new)
