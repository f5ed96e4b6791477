-- The result of the lines of a script for a value at its type, generic in representations and
-- names. Parts are copied from earlier values, each as the earlier value is after its own lines.
use Rattle.std.specs.Prelude.{ℕ, ◌≡◌, Some, Ok, Err, List, [], ◌∷◌, slice_get}
use Rattle.base_data.specs.declared.model.value.Val.{Val}
use Rattle.base_data.specs.declared.model.value.Obj.{Obj}
use Rattle.types_spec.specs.declared.types.names.Names.{Names}
use Rattle.types_spec.specs.declared.types.shape.ShapeOf.{ShapeOf}
use Rattle.text_path.specs.declared.edits.Action.{Action}
use Rattle.text_path.specs.declared.edits.Action.TheVariants as actions
use Rattle.text_path.specs.declared.edits.ScriptLine.{ScriptLine}
use Rattle.edit_values.specs.EditedValues.{EditAnswer, Edited, IsAnswer}
use Rattle.edit_values.specs.Grafts.{Other, IsGraftAnswer}

module _ {T : Type 0} (shape : T → ShapeOf T) (names : T → Names) (Equal : T → T → Type 0) (t : T)
    (others : List Other) where
  -- The answer to the action of a line. A graft copies a part of the earlier value whose number the
  -- graft states.
  abbrev pub IsLineAnswer : Action → List Obj → Val → EditAnswer T → Type 0
  IsLineAnswer (actions.Edit edit) graph root answer =
      IsAnswer shape names Equal t edit graph root answer
  IsLineAnswer (actions.Graft path number source) graph root answer =
      (other : Other) × (slice_get others number ≡ Some other)
      × IsGraftAnswer shape Equal t path other source graph root answer

  -- The lines after line `number` edit the result of that line. If that line is refused, no later
  -- line is executed.
  abbrev pub IsContinued : ℕ → (List Obj → Val → Edited T → Type 0) → EditAnswer T → Edited T
      → Type 0
  IsContinued number Rest (Ok edited) all = Rest edited.0 edited.1 all
  IsContinued number Rest (Err reason) all = all ≡ Err (number, reason)

  abbrev pub AreEdited : List ScriptLine → List Obj → Val → Edited T → Type 0
  AreEdited [] graph root all = all ≡ Ok (graph, root)
  AreEdited (line ∷ lines) graph root all =
      (first : EditAnswer T) × IsLineAnswer line.action graph root first
      × IsContinued line.number (AreEdited lines) first all
