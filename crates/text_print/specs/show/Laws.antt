-- The text of a value by a table of types equals the text by the types, and texts are never
-- truncated.
use Rattle.std.specs.Prelude.{ℕ, ◌+◌, ◌≡◌, List, [], length, Some, slice_get, IsSome}
use Rattle.base_data.specs.declared.model.value.Val.{Val}
use Rattle.base_data.specs.declared.model.value.Obj.{Obj}
use Rattle.types_spec.specs.declared.types.decl.Decl.{Decl}
use Rattle.types_spec.specs.types.WellFormed.{AreWellFormed, IsSoundType}
use Rattle.types_spec.specs.types.Equal.{Equal, declared_shapes}
use Rattle.types_spec.specs.types.Fault.{value_at}
use Rattle.types_spec.specs.types.Fitting.{fields_of}
use Rattle.types_spec.specs.types.Names.{names_of}
use Rattle.types_spec.specs.types.Reached.{IsReached}
use Rattle.types_spec.specs.types.Shape.{shape}
use Rattle.types_spec.specs.types.Ty.{Ty}
use Rattle.types_spec.specs.types.Typing.{HasType}
use Rattle.types_table.specs.declared.type_table.tabled.Tabled.{Tabled}
use Rattle.types_table.specs.type_table.Made.{types_of, IsTypeTable}
use Rattle.text_print.specs.show.NamedFields.{HasItsNames}
use Rattle.text_print.specs.show.ShownValues.{met_within, shown_text, shown_at}
use Rattle.text_print.specs.show.TableShapes.{shape_in, names_in}

-- The numbers `i` and `j` are in one class of equal types.
abbrev pub SameClass : Tabled → ℕ → ℕ → Type 0
SameClass table i j = slice_get table.classes i ≡ slice_get table.classes j

-- A value, and the part of the value at each path, has the same text at a number as at the number's
-- type. The choice of equal types does not matter: the statement holds for types in one class and
-- for identical types.
pub record ShowAgree (decls : List Decl) (table : Tabled) (i : ℕ) (t : Ty) : Type 0 where
  pub whole : (graph : List Obj) (v : Val)
      → shown_text (shape_in table) (names_in table) graph v i
      ≡ shown_text (shape decls) (names_of decls) graph v t
  pub part : (graph : List Obj) (v : Val) (path : List ℕ)
      → shown_at (shape_in table) (names_in table) graph (SameClass table) v i path
      ≡ shown_at (shape decls) (names_of decls) graph (Equal decls) v t path
  pub plain_part : (graph : List Obj) (v : Val) (path : List ℕ)
      → shown_at (shape_in table) (names_in table) graph ◌≡◌ v i path
      ≡ shown_at (shape decls) (names_of decls) graph ◌≡◌ v t path

-- A value has the same text at every number of a table as at the number's type (`ShowAgree`).
abbrev pub TablesShowAgree : Type 0
TablesShowAgree =
    (decls : List Decl) (t : Ty) (table : Tabled) → IsTypeTable decls t table
    → (i : ℕ) (u : Ty) → slice_get (types_of table) i ≡ Some u → ShowAgree decls table i u

-- A value has the same text at number 0 of a table as at the type for which the table was made.
abbrev pub RootsShowAgree : Type 0
RootsShowAgree =
    (decls : List Decl) (t : Ty) (table : Tabled) → IsTypeTable decls t table
    → ShowAgree decls table 0 t

-- A larger bound on nested values than the number of objects plus one gives the same chunks. No
-- text is truncated.
abbrev pub MoreIsTheSame : Type 0
MoreIsTheSame =
    (decls : List Decl) (graph : List Obj) (v : Val) (t : Ty) (more : ℕ)
    → met_within (shape decls) (names_of decls) graph (length graph + 1 + more) [] v t
    ≡ met_within (shape decls) (names_of decls) graph (length graph + 1) [] v t

-- At a number of a table, a larger bound on nested values gives the same chunks.
abbrev pub MoreIsTheSameByNumbers : Type 0
MoreIsTheSameByNumbers =
    (table : Tabled) (graph : List Obj) (v : Val) (i : ℕ) (more : ℕ)
    → met_within (shape_in table) (names_in table) graph (length graph + 1 + more) [] v i
    ≡ met_within (shape_in table) (names_in table) graph (length graph + 1) [] v i

-- If a value matches a type's representation, then the type has the names that the value's text
-- needs.
abbrev pub NoNameIsMissing : Type 0
NoNameIsMissing =
    (decls : List Decl) (graph : List Obj) (v : Val) (t : Ty)
    → IsSome (fields_of graph v (shape decls t))
    → HasItsNames (shape decls t) (names_of decls t) graph v

-- If a value has its type, then the names that the texts of the value's parts need exist.
abbrev pub NoNameIsMissingInParts : Type 0
NoNameIsMissingInParts =
    (decls : List Decl) (t : Ty) (types : List Ty) → AreWellFormed decls → IsSoundType decls t
    → IsReached decls t types
    → (graph : List Obj) (v : Val) → HasType (declared_shapes decls) graph v t
    → (path : List ℕ) (w : Val) (u : Ty)
    → value_at (declared_shapes decls) graph v t path ≡ Some (w, u)
    → HasItsNames (shape decls u) (names_of decls u) graph w
