-- The state of the refinement as one value, and its final result.
use Rattle.std.specs.Prelude.{ℕ, ◌≡◌, ◌<◌, List, length, slice_index}
use Rattle.std.specs.Global.{Vec}
use Rattle.types_spec.specs.declared.types.head.HeadOf.{HeadOf}
use Rattle.types_spec.specs.types.Table.{head_at}
use Rattle.types_spec.specs.types.Classes.{PartsBelow, KeepsTogether}
use Rattle.types_table.specs.declared.partition.head_form.HeadForm.{HeadForm}
use Rattle.types_table.specs.declared.partition.refinement.Refinement.{Refinement}
use Rattle.types_table.specs.partition.Form.{AreForms}
use Rattle.types_table.specs.partition.Refinement.{SignatureAt, IsSignatureOf, IsUnderWay, IsOpen}

abbrev pub IsUnderWayAt : List HeadForm → Refinement → Type 0
IsUnderWayAt forms p =
    IsUnderWay forms p.class.items p.signatures.items p.members.items p.waiting.items p.todo.items

abbrev pub IsOpenAt : List HeadForm → Refinement → List ℕ → ℕ → Type 0
IsOpenAt forms p waited parted =
    IsOpen forms p.class.items p.signatures.items p.members.items p.waiting.items p.todo.items
    waited
    parted

-- Equal numbers have the same class.
abbrev pub KeepsEqual : List HeadForm → List ℕ → Type 0
KeepsEqual forms class =
    (all : List (HeadOf ℕ)) → AreForms all forms → PartsBelow (length all) (head_at all)
    → KeepsTogether (length all) (head_at all) (slice_index class)

-- Equal numbers have the same class, and each number has the signature of its class.
pub record IsParted (forms : List HeadForm) (class : List ℕ) : Type 0 where
  pub many : length class ≡ length forms
  pub signatures : List (Vec ℕ)
  pub settled :
      (i : ℕ) → i < length class
      → (s : List ℕ) × SignatureAt signatures (slice_index class i) s
      × IsSignatureOf forms (slice_index class) i s
  pub keeps : KeepsEqual forms class
