-- Laws on grafts. The new part is isomorphic to the copied part, and the answer is unique. Answers
-- by the numbers of a table correspond to answers by the types.
use Rattle.std.specs.Prelude.{ℕ, ◌≤◌, ◌≡◌, Ok, Some, List, length, slice_get}
use Rattle.base_data.specs.declared.model.value.Val.{Val}
use Rattle.base_data.specs.declared.model.value.Obj.{Obj}
use Rattle.types_spec.specs.declared.types.decl.Decl.{Decl}
use Rattle.types_spec.specs.types.WellFormed.{AreWellFormed, IsSoundType}
use Rattle.types_spec.specs.types.Equal.{Equal, declared_shapes}
use Rattle.types_spec.specs.types.Reached.{IsReached}
use Rattle.types_spec.specs.types.Shape.{shape}
use Rattle.types_spec.specs.types.Shapes.{Shapes}
use Rattle.types_spec.specs.types.Ty.{Ty}
use Rattle.types_spec.specs.types.Typing.{HasType}
use Rattle.marshal_spec.specs.format.Isomorphism.{Isomorphism}
use Rattle.types_table.specs.declared.type_table.tabled.Tabled.{Tabled}
use Rattle.types_table.specs.type_table.Made.{table_of, IsLawful, IsTypeTable}
use Rattle.marshal_write.specs.graft.Copies.{IsWithin, AreWithin}
use Rattle.edit_values.specs.declared.spots.TypedLocation.{TypedLocation}
use Rattle.edit_values.specs.EditedValues.{EditAnswer}
use Rattle.edit_values.specs.Grafts.{Other, IsGraftAnswer, IsGraftAnswerIn}
use Rattle.edit_values.specs.Laws.{IsAtMostOne, SayTheSame}
use Rattle.edit_values.specs.EditPositions.{position_at, StandsAt}

-- The answer to a graft at a declared type.
abbrev pub IsDeclaredGraft : List Decl → Ty → List ℕ → Other → List ℕ → List Obj → Val
    → EditAnswer Ty
    → Type 0
IsDeclaredGraft decls t path other source graph root answer =
    IsGraftAnswer (shape decls) (Equal decls) t path other source graph root answer

-- The value at the location is isomorphic to the copied part, including sharing and cycles. The
-- value and all new objects refer only to new objects. The whole value has its type.
pub record HasGraft {T : Type 0} (shapes : Shapes T) (t : T) (p part : TypedLocation T)
    (other : Other)
    (graph : List Obj) (made : List Obj × Val) : Type 0 where
  pub value : Val
  pub stands : StandsAt made.0 made.1 p.spot value
  pub same : Isomorphism made.0 value other.0 part.value
  pub is_new : IsWithin (length graph) (length made.0) value
  pub all_are_new : (k : ℕ) (object : Obj) → length graph ≤ k → slice_get made.0 k ≡ Some object
      → AreWithin (length graph) (length made.0) object
  pub typed : HasType shapes made.0 made.1 t

-- If the two paths of a graft lead to locations, then the result of the graft has the properties of
-- `HasGraft`.
abbrev pub GraftsAreTheSame : Type 0
GraftsAreTheSame =
    (decls : List Decl) (t : Ty) (path : List ℕ) (other : Other) (source : List ℕ)
    (graph : List Obj) (root : Val) (made : List Obj × Val)
    → IsDeclaredGraft decls t path other source graph root (Ok made)
    → (p part : TypedLocation Ty) → position_at (declared_shapes decls) graph root t path ≡ Ok p
    → position_at (declared_shapes decls) other.0 other.1 t source ≡ Ok part
    → HasGraft (declared_shapes decls) t p part other graph made

-- A graft has at most one answer, by the numbers of a table and by types.
pub record GraftsHaveOneAnswer : Type 0 where
  pub by_numbers : (table : Tabled) → IsLawful (table_of table)
      → (path : List ℕ) (other : Other) (source : List ℕ) (graph : List Obj) (root : Val)
      → IsAtMostOne (IsGraftAnswerIn table path other source graph root)
  pub by_types : (decls : List Decl) (t : Ty) (types : List Ty) → AreWellFormed decls
      → IsSoundType decls t → IsReached decls t types
      → (path : List ℕ) (other : Other) (source : List ℕ) (graph : List Obj) (root : Val)
      → IsAtMostOne (IsDeclaredGraft decls t path other source graph root)

-- An answer by the numbers of a table corresponds to an answer by the types.
abbrev pub TablesGraftAgree : Type 0
TablesGraftAgree =
    (decls : List Decl) (t : Ty) (table : Tabled) → IsTypeTable decls t table
    → (path : List ℕ) (other : Other) (source : List ℕ) (graph : List Obj) (root : Val)
    (answer : EditAnswer ℕ) → IsGraftAnswerIn table path other source graph root answer
    → (declared : EditAnswer Ty) × IsDeclaredGraft decls t path other source graph root declared
    × SayTheSame table answer declared
