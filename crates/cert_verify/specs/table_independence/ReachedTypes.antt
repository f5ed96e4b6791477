-- A certificate entry shows one result about a value for all tables of a type. The pairs that paths
-- reach are one list for all tables.
use Rattle.std.specs.Prelude.{ℕ, ◌≡◌, List}
use Rattle.base_data.specs.declared.model.value.Val.{Val}
use Rattle.base_data.specs.declared.model.value.Obj.{Obj}
use Rattle.types_spec.specs.declared.types.decl.Decl.{Decl}
use Rattle.types_spec.specs.types.Ty.{Ty}
use Rattle.types_spec.specs.types.Reached.{IsReached}
use Rattle.types_spec.specs.types.Table.{Table, IsTableOf}
use Rattle.cert_format.specs.declared.section.Section.{Section}
use Rattle.cert_verify.specs.declared.certificate.verified.Verified.{Verified}
use Rattle.cert_verify.specs.certificate.Normal.{AreReached}
use Rattle.cert_verify.specs.certificate.Verified.{IsVerified}

-- The list of the types that a type reaches is unique.
abbrev pub ReachedTypesAreOne : Type 0
ReachedTypesAreOne =
    (decls : List Decl) (t : Ty) (types others : List Ty) → IsReached decls t types
    → IsReached decls t others → types ≡ others

-- The answer to a certificate entry, for a table of the types that the type reaches.
pub record IsAnswerAt (decls : List Decl) (t : Ty) (graph : List Obj) (root : Val)
    (section : Section) (answer : Verified) : Type 0 where
  pub types : List Ty
  pub reached : IsReached decls t types
  pub table : Table
  pub made : IsTableOf decls types table
  pub verified : IsVerified table graph root section answer

-- A certificate entry has at most one answer at a type.
abbrev pub AnswersAtAreOne : Type 0
AnswersAtAreOne =
    (decls : List Decl) (t : Ty) (graph : List Obj) (root : Val) (section : Section)
    (one other : Verified) → IsAnswerAt decls t graph root section one
    → IsAnswerAt decls t graph root section other → one ≡ other

-- The pairs that paths reach, for a table of the types that the type reaches.
pub record AreReachedAt (decls : List Decl) (t : Ty) (graph : List Obj) (root : Val)
    (pairs : List (ℕ × ℕ)) : Type 0 where
  pub types : List Ty
  pub reached : IsReached decls t types
  pub table : Table
  pub made : IsTableOf decls types table
  pub are : AreReached table graph root pairs

-- The list of the pairs that paths reach at a type is unique.
abbrev pub ReachedPairsAreOne : Type 0
ReachedPairsAreOne =
    (decls : List Decl) (t : Ty) (graph : List Obj) (root : Val) (pairs others : List (ℕ × ℕ))
    → AreReachedAt decls t graph root pairs → AreReachedAt decls t graph root others
    → pairs ≡ others
