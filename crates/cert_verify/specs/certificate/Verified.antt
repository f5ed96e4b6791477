-- The result of verifying an entry, and the reasons for rejecting one.
use Rattle.std.specs.Prelude.{ℕ, ◌<◌, ◌≡◌, ◌⊎◌, List, [], ◌∷◌, length, IsSomeAnd, Contains}
use Rattle.std.specs.Prelude.{slice_get}
use Rattle.base_data.specs.declared.model.value.Val.{Val}
use Rattle.base_data.specs.declared.model.value.Val.TheVariants as vals
use Rattle.base_data.specs.declared.model.value.Obj.{Obj}
use Rattle.types_spec.specs.declared.types.fault.Fault.{Fault}
use Rattle.types_spec.specs.declared.types.fault.Fault.TheVariants as faults
use Rattle.types_spec.specs.types.Fault.{IsFault, IsLexicallyBefore}
use Rattle.types_spec.specs.types.Table.{Table, table_shapes}
use Rattle.types_spec.specs.types.Typing.{field_at, IsHeld, HasType}
use Rattle.cert_format.specs.declared.section.Section.{Section}
use Rattle.cert_format.specs.declared.section.Section.TheVariants as sections
use Rattle.cert_verify.specs.declared.certificate.verified.Why.{Why}
use Rattle.cert_verify.specs.declared.certificate.verified.Why.TheVariants.{Range, Unfit, Need}
use Rattle.cert_verify.specs.declared.certificate.verified.Why.TheVariants.{TwoTypes, Root}
use Rattle.cert_verify.specs.declared.certificate.verified.Why.TheVariants.{NotFault}
use Rattle.cert_verify.specs.declared.certificate.verified.Verified.{Verified}
use Rattle.cert_verify.specs.declared.certificate.verified.Verified.TheVariants.{Yes, No, Rejected}
use Rattle.cert_verify.specs.certificate.AcceptedEntry.{IsAccepted}

-- ---- reasons

-- The object and the type of a pair exist.
abbrev pub IsThere : Table → List Obj → ℕ × ℕ → Type 0
IsThere table graph pair = (pair.0 < length graph) × (pair.1 < length table.nodes)

-- A required field of the pair's object is not held at the type of the field.
pub record LacksNeed (table : Table) (graph : List Obj) (pairs : List (ℕ × ℕ)) (pair : ℕ × ℕ)
    (field : ℕ) : Type 0 where
  pub type : ℕ
  pub needed : Contains ((table_shapes table).needs graph (vals.Ref pair.0) pair.1) (field, type)
  pub lacks :
      ¬ IsSomeAnd (field_at graph pair.0 field)
      (λ v. IsHeld (table_shapes table) graph pairs v type)

-- The object is mutable at the type of the pair, and another pair has the object at an unequal
-- type.
pub record IsAtTwoTypes (table : Table) (graph : List Obj) (pairs : List (ℕ × ℕ))
    (pair : ℕ × ℕ) : Type 0 where
  pub mutable : (table_shapes table).mutable graph pair.0 pair.1
  pub other : ℕ
  pub among : Contains pairs (pair.0, other)
  pub unequal : ¬ (table_shapes table).equal pair.1 other

-- The faults of pairs, by the reason that states them.
abbrev pub IsWrong : Table → List Obj → Val → List (ℕ × ℕ) → Why → Type 0
IsWrong table graph root pairs (Range i) =
    IsSomeAnd (slice_get pairs i) (λ pair. ¬ IsThere table graph pair)
IsWrong table graph root pairs (Unfit i) =
    IsSomeAnd (slice_get pairs i)
    (λ pair. ¬ (table_shapes table).fits graph (vals.Ref pair.0) pair.1)
IsWrong table graph root pairs (Need i field) =
    IsSomeAnd (slice_get pairs i) (λ pair. LacksNeed table graph pairs pair field)
IsWrong table graph root pairs (TwoTypes i) =
    IsSomeAnd (slice_get pairs i) (λ pair. IsAtTwoTypes table graph pairs pair)
IsWrong table graph root pairs Root = ¬ IsHeld (table_shapes table) graph pairs root 0
IsWrong table graph root pairs NotFault = ⊥

-- The faults of an entry, by the reason that states them.
abbrev pub IsWhy : Table → List Obj → Val → Section → Why → Type 0
IsWhy table graph root (sections.Pairs pairs) why = IsWrong table graph root pairs why
IsWhy table graph root (sections.Mismatch path) why =
    (why ≡ NotFault) × (¬ IsFault (table_shapes table) graph root 0 (faults.Mismatch path))
IsWhy table graph root (sections.Conflict first second) why =
    (why ≡ NotFault) × (¬ IsFault (table_shapes table) graph root 0 (faults.Conflict first second))

-- ---- the first reason

-- The position of a fault in the order of verification. Faults of the range of all pairs come
-- first. Then come the faults of each pair, with the pair's fields in order. The fault of the root
-- comes last.
abbrev pub position_of : Why → List ℕ
position_of (Range i) = 0 ∷ i ∷ 0 ∷ 0 ∷ []
position_of (Unfit i) = 1 ∷ i ∷ 0 ∷ 0 ∷ []
position_of (Need i field) = 1 ∷ i ∷ 1 ∷ field ∷ []
position_of (TwoTypes i) = 1 ∷ i ∷ 2 ∷ 0 ∷ []
position_of Root = 2 ∷ 0 ∷ 0 ∷ 0 ∷ []
position_of NotFault = 3 ∷ 0 ∷ 0 ∷ 0 ∷ []

-- `why` is a fault of the entry, and no fault comes before it.
pub record IsFirstWhy (table : Table) (graph : List Obj) (root : Val) (section : Section)
    (why : Why) : Type 0 where
  pub is : IsWhy table graph root section why
  pub first :
      (other : Why) → IsWhy table graph root section other
      → ¬ IsLexicallyBefore (position_of other) (position_of why)

-- What an accepted entry proves.
abbrev pub shown_by : Section → Verified
shown_by (sections.Pairs pairs) = Yes
shown_by (sections.Mismatch path) = No (faults.Mismatch path)
shown_by (sections.Conflict first second) = No (faults.Conflict first second)

-- The entry that states a fault.
abbrev pub fault_section : Fault → Section
fault_section (faults.Mismatch path) = sections.Mismatch path
fault_section (faults.Conflict first second) = sections.Conflict first second

-- The answer to an entry. If the entry is accepted, the answer is what the entry proves. If the
-- entry is not accepted, the answer is the first fault of the entry.
abbrev pub IsVerified : Table → List Obj → Val → Section → Verified → Type 0
IsVerified table graph root section answer =
    (IsAccepted table graph root section × (answer ≡ shown_by section))
    ⊎ ((why : Why) × IsFirstWhy table graph root section why × (answer ≡ Rejected why))

-- If the answer is `Yes`, then the value has type 0. If the answer is `No`, then the value does not
-- have type 0.
abbrev pub Shows : Table → List Obj → Val → Verified → Type 0
Shows table graph root Yes = HasType (table_shapes table) graph root 0
Shows table graph root (No fault) = ¬ HasType (table_shapes table) graph root 0
Shows table graph root (Rejected why) = Unit {0}

-- Each answer to the entry equals this answer.
abbrev pub IsOneAnswer : Table → List Obj → Val → Section → Verified → Type 0
IsOneAnswer table graph root section answer =
    (other : Verified) → IsVerified table graph root section other → other ≡ answer
