-- The laws of certificates.
use Rattle.std.specs.Prelude.{ℕ, ◌≡◌, List, Some}
use Rattle.base_data.specs.declared.model.value.Val.{Val}
use Rattle.base_data.specs.declared.model.value.Val.TheVariants as vals
use Rattle.base_data.specs.declared.model.value.Obj.{Obj}
use Rattle.types_spec.specs.declared.types.fault.Fault.{Fault}
use Rattle.types_spec.specs.types.LawfulShapes.{AreLawful, Everything}
use Rattle.types_spec.specs.types.Fault.{IsFault, value_at}
use Rattle.types_spec.specs.types.Table.{Table, table_shapes}
use Rattle.types_spec.specs.types.Typing.{IsListed, HasType}
use Rattle.cert_format.specs.declared.section.Section.{Section}
use Rattle.cert_verify.specs.declared.certificate.verified.Why.{Why}
use Rattle.cert_verify.specs.declared.certificate.verified.Verified.{Verified}
use Rattle.cert_verify.specs.certificate.AcceptedEntry.{AreAccepted, IsAccepted}
use Rattle.cert_verify.specs.certificate.Normal.{AreNormal, AreTheSame, AreReached}
use Rattle.cert_verify.specs.certificate.Verified.{IsWhy, IsVerified}

-- If pairs are accepted for a value, then the value has the type.
abbrev pub PairsGiveTheType : Type 0
PairsGiveTheType =
    (table : Table) → AreLawful (table_shapes table) Everything
    → (graph : List Obj) (root : Val) (t : ℕ) (pairs : List (ℕ × ℕ))
    → AreAccepted (table_shapes table) graph root t pairs
    → HasType (table_shapes table) graph root t

-- If pairs are accepted for a value, then the pairs include every object that paths reach, at an
-- equal type.
abbrev pub PairsHoldWhatPathsReach : Type 0
PairsHoldWhatPathsReach =
    (table : Table) → AreLawful (table_shapes table) Everything
    → (graph : List Obj) (root : Val) (t : ℕ) (pairs : List (ℕ × ℕ))
    → AreAccepted (table_shapes table) graph root t pairs
    → (path : List ℕ) (o u : ℕ)
    → value_at (table_shapes table) graph root t path ≡ Some (vals.Ref o, u)
    → IsListed (table_shapes table) pairs (vals.Ref o) u

-- If paths are a fault of a value, then the value does not have the type.
abbrev pub PathsRefuteTheType : Type 0
PathsRefuteTheType =
    (table : Table) → AreLawful (table_shapes table) Everything
    → (graph : List Obj) (root : Val) (t : ℕ) (fault : Fault)
    → IsFault (table_shapes table) graph root t fault → ¬ HasType (table_shapes table) graph root t

-- If two lists of pairs have the same objects at equal types, and one list is accepted, then the
-- other list is accepted.
abbrev pub SamePairsAreAccepted : Type 0
SamePairsAreAccepted =
    (table : Table) → AreLawful (table_shapes table) Everything
    → (graph : List Obj) (root : Val) (t : ℕ) (pairs others : List (ℕ × ℕ))
    → AreTheSame (table_shapes table) pairs others
    → AreAccepted (table_shapes table) graph root t pairs
    → AreAccepted (table_shapes table) graph root t others

-- Of the lists with the same objects at equal types, at most one is in the order of an entry.
abbrev pub NormalPairsAreOne : Type 0
NormalPairsAreOne =
    (table : Table) (pairs others : List (ℕ × ℕ)) → AreNormal table pairs → AreNormal table others
    → AreTheSame (table_shapes table) pairs others
    → pairs ≡ others

-- If an entry has a fault, then the entry is not accepted.
abbrev pub RejectedAreNotAccepted : Type 0
RejectedAreNotAccepted =
    (table : Table) (graph : List Obj) (root : Val) (section : Section) (why : Why)
    → IsWhy table graph root section why
    → ¬ IsAccepted table graph root section

-- An entry has at most one answer.
abbrev pub AnswersAreOne : Type 0
AnswersAreOne =
    (table : Table) (graph : List Obj) (root : Val) (section : Section) (one other : Verified)
    → IsVerified table graph root section one → IsVerified table graph root section other
    → one ≡ other

-- If a value has the type, then the pairs that paths reach are accepted.
abbrev pub ReachedAreAccepted : Type 0
ReachedAreAccepted =
    (table : Table) → AreLawful (table_shapes table) Everything
    → (graph : List Obj) (root : Val) (pairs : List (ℕ × ℕ))
    → HasType (table_shapes table) graph root 0
    → AreReached table graph root pairs → AreAccepted (table_shapes table) graph root 0 pairs

-- At most one list contains the pairs that paths reach, in the order of an entry.
abbrev pub ReachedAreOne : Type 0
ReachedAreOne =
    (table : Table) → AreLawful (table_shapes table) Everything
    → (graph : List Obj) (root : Val) (pairs others : List (ℕ × ℕ))
    → AreReached table graph root pairs
    → AreReached table graph root others → pairs ≡ others
