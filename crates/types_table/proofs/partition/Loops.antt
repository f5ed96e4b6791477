-- Invariants of the loops over heads and tags.
use Rattle.std.proofs.Common.{ℕ, ◌<◌, ◌≡◌, List, Some, length}
use Rattle.std.specs.Prelude.{slice_get, slice_index, Contains}
use Rattle.std.specs.Global.{Vec}
use Rattle.std.specs.List.{AllZip}
use Rattle.types_spec.specs.declared.types.head.TagOf.{TagOf}
use Rattle.types_spec.specs.declared.types.head.HeadOf.{HeadOf}
use Rattle.types_table.specs.store.Held.{AreDistinct, Grows}
use Rattle.types_table.specs.declared.partition.head_form.TagForm.{TagForm}
use Rattle.types_table.specs.declared.partition.head_form.HeadForm.{HeadForm}
use Rattle.types_table.specs.partition.Form.{AreTagForms, IsForm}
use Rattle.types_table.specs.partition.Lists.{Has, Keeps}
use Rattle.types_table.specs.partition.Users.{parts_in}
use Rattle.types_table.specs.partition.Refinement.{IsReady, MarksUsers, AreSigned, HasMembers}

-- Each tag processed up to now has a form. The list of names extends the old list of names.
pub record TagsSoFar (old names : List (List ℕ)) (tags : List (TagOf ℕ)) (forms : List TagForm) : Type 0 where
  pub grown : Grows old names
  pub distinct : AreDistinct names
  pub are : AreTagForms names tags forms

-- Each head processed up to now has a form.
pub record FormsSoFar (names : List (List ℕ)) (all : List (HeadOf ℕ)) (forms : List HeadForm) : Type 0 where
  pub distinct : AreDistinct names
  pub are : AllZip (IsForm names) all forms

-- Each part processed up to now has the additional user `user`.
pub record UsesSoFar (old now : List (Vec ℕ)) (parts : List ℕ) (user : ℕ) : Type 0 where
  pub keeps : Keeps old now
  pub has : (k : ℕ) → Contains parts k → k < length old → Has now k user

-- Each number below `below` is a user of the parts of its form.
pub record UsersSoFar (forms : List HeadForm) (below : ℕ) (users : List (Vec ℕ)) : Type 0 where
  pub many : length users ≡ length forms
  pub has :
      (i k : ℕ) (form : HeadForm) → i < below → slice_get forms i ≡ Some form → Contains (parts_in form) k
      → k < length forms → Has users k i

-- Each number processed up to now is pending.
pub record MarksSoFar (old now : List (Vec ℕ)) (todo class numbers : List ℕ) : Type 0 where
  pub keeps : Keeps old now
  pub ready : IsReady now todo
  pub marked : (u : ℕ) → Contains numbers u → Has now (slice_index class u) u

-- If a number processed up to now left the class, then the users of the number are pending.
pub record UserMarksSoFar (old now : List (Vec ℕ)) (todo class : List ℕ) (users : List (Vec ℕ)) (left : ℕ)
    (inspected : List ℕ) : Type 0 where
  pub keeps : Keeps old now
  pub ready : IsReady now todo
  pub marked : MarksUsers class users left inspected now

-- Each number processed up to now has the index of a signature.
pub record SignedSoFar (forms : List HeadForm) (class : List ℕ) (old found : List (List ℕ)) (inspected positions : List ℕ)
    : Type 0 where
  pub grown : Grows old found
  pub distinct : AreDistinct found
  pub are : AreSigned forms (slice_index class) found inspected positions

-- If a number processed up to now left the class, then the number is a member of its new class.
pub record MembersSoFar (old now : List (Vec ℕ)) (class : List ℕ) (left : ℕ) (inspected : List ℕ) : Type 0 where
  pub keeps : Keeps old now
  pub has : HasMembers class left inspected now
