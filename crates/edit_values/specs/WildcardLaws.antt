-- Script lines do not change an object to which no path leads, for example an object that only
-- wildcards reach.
use Rattle.std.specs.Prelude.{ℕ, ◌≡◌, Some, Ok, List, [], ◌∷◌, slice_get, ⊤}
use Rattle.base_data.specs.declared.model.value.Val.{Val}
use Rattle.base_data.specs.declared.model.value.Val.TheVariants as vals
use Rattle.base_data.specs.declared.model.value.Obj.{Obj}
use Rattle.types_spec.specs.declared.types.decl.Decl.{Decl}
use Rattle.types_spec.specs.types.Equal.{Equal, declared_shapes}
use Rattle.types_spec.specs.types.Fault.{value_at}
use Rattle.types_spec.specs.types.Names.{names_of}
use Rattle.types_spec.specs.types.Shape.{shape}
use Rattle.types_spec.specs.types.Shapes.{Shapes}
use Rattle.types_spec.specs.types.Ty.{Ty}
use Rattle.text_path.specs.declared.edits.Action.{Action}
use Rattle.text_path.specs.declared.edits.ScriptLine.{ScriptLine}
use Rattle.edit_values.specs.EditedLines.{IsLineAnswer}
use Rattle.edit_values.specs.EditedValues.{EditAnswer}
use Rattle.edit_values.specs.Grafts.{Other}
use Rattle.edit_values.specs.Laws.{AreDeclaredEdits}

-- No path leads to the object.
abbrev pub IsUnreached : {T : Type 0} → Shapes T → List Obj → ℕ → Val → T → Type 0
IsUnreached {T} shapes graph o v t =
    (path : List ℕ) (u : T) → ¬ (value_at shapes graph v t path ≡ Some (vals.Ref o, u))

-- The answer to the action of a line, for a value of a declared type. `others` are the earlier
-- values.
abbrev pub IsDeclaredLine : List Decl → Ty → List Other → Action → List Obj → Val → EditAnswer Ty
    → Type 0
IsDeclaredLine decls t others action graph root answer =
    IsLineAnswer (shape decls) (names_of decls) (Equal decls) t others action graph root answer

-- Before each line, no path leads to the object in the value that the line edits. A line may make
-- an object reachable for the next line, by writing a part at a type that requires more of the
-- part's fields.
abbrev pub IsNeverReached : List Decl → Ty → List Other → ℕ → List ScriptLine → List Obj → Val
    → Type 0
IsNeverReached decls t others o [] graph root = ⊤
IsNeverReached decls t others o (line ∷ lines) graph root =
    IsUnreached (declared_shapes decls) graph o root t
    × ((edited : List Obj × Val)
    → IsDeclaredLine decls t others line.action graph root (Ok edited)
    → IsNeverReached decls t others o lines edited.0 edited.1)

-- An edit or a graft does not change an object to which no path leads. Script lines do not change
-- an object if, before each line, no path leads to the object.
pub record EditsLeaveWildcards : Type 0 where
  pub by_line : (decls : List Decl) (t : Ty) (others : List Other) (action : Action)
      (graph : List Obj) (root : Val) (edited : List Obj × Val)
      → IsDeclaredLine decls t others action graph root (Ok edited)
      → (o : ℕ) (object : Obj) → slice_get graph o ≡ Some object
      → IsUnreached (declared_shapes decls) graph o root t
      → slice_get edited.0 o ≡ Some object
  pub by_lines : (decls : List Decl) (t : Ty) (others : List Other) (lines : List ScriptLine)
      (graph : List Obj) (root : Val) (edited : List Obj × Val)
      → AreDeclaredEdits decls t others lines graph root (Ok edited)
      → (o : ℕ) (object : Obj) → slice_get graph o ≡ Some object
      → IsNeverReached decls t others o lines graph root
      → slice_get edited.0 o ≡ Some object
