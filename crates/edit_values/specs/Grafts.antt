-- Grafts: a copy of a part of another value is written at a location, generic in representations.
-- The two values have one type. A value is a graph and a root.
use Rattle.std.specs.Prelude.{ℕ, ◌≡◌, Option, Some, None, Result, Ok, Err, List, ◌++◌, length, ⊤}
use Rattle.base_data.specs.declared.model.value.Val.{Val}
use Rattle.base_data.specs.declared.model.value.Obj.{Obj}
use Rattle.types_spec.specs.declared.types.fault.Fault.{Fault}
use Rattle.types_spec.specs.declared.types.shape.ShapeOf.{ShapeOf}
use Rattle.types_spec.specs.types.Fitting.{shaped}
use Rattle.types_spec.specs.types.LeastFault.{IsLeastFault}
use Rattle.types_spec.specs.types.Typing.{HasType}
use Rattle.types_table.specs.declared.type_table.tabled.Tabled.{Tabled}
use Rattle.text_literal.specs.parser.LiteralAnswers.{shape_in}
use Rattle.marshal_write.specs.graft.Copies.{IsCopy}
use Rattle.edit_values.specs.declared.spots.TypedLocation.{TypedLocation}
use Rattle.edit_values.specs.declared.edit_refusal.EditRefusal.{EditRefusal}
use Rattle.edit_values.specs.declared.edit_refusal.EditSide.TheVariants.{Left, Right}
use Rattle.edit_values.specs.EditedValues.{EditAnswer, write_at}
use Rattle.edit_values.specs.EditPositions.{position_at}
use Rattle.edit_values.specs.Reasons.{Reason, no_field, ill_typed, reason_of}
use Rattle.edit_values.specs.TableEdits.{SameClass}

-- The value from which a part is copied.
abbrev pub Other : Type 0
Other = List Obj × Val

module _ {T : Type 0} where
  -- A copy of the other value's part is written at a location of this value.
  abbrev pub IsGraftAt : List Obj → Val → TypedLocation T → List Obj → TypedLocation T
      → EditAnswer T
      → Type 0
  IsGraftAt graph root p from part (Ok made) =
      (copied : List Obj) × (value : Val)
      × IsCopy from part.value (length graph) copied value
      × (made ≡ write_at p.spot value (graph ++ copied) root)
  IsGraftAt graph root p from part (Err reason) = ⊥

  -- The result of a graft, given the locations at the ends of the two paths. If both paths lead
  -- nowhere, the step of the left path is reported.
  abbrev pub IsGraft : List Obj → Val → Result (TypedLocation T) ℕ → List Obj
      → Result (TypedLocation T) ℕ
      → EditAnswer T → Type 0
  IsGraft graph root (Err step) from part made = made ≡ Err (no_field Left step)
  IsGraft graph root (Ok p) from (Err step) made = made ≡ Err (no_field Right step)
  IsGraft graph root (Ok p) from (Ok part) made = IsGraftAt graph root p from part made

  module _ (shape : T → ShapeOf T) (Equal : T → T → Type 0) (t : T) where
    -- The result of a graft, without regard to whether the new value has its type.
    abbrev pub IsGrafted : List ℕ → Other → List ℕ → List Obj → Val → EditAnswer T → Type 0
    IsGrafted path other source graph root made =
        IsGraft graph root (position_at (shaped shape Equal) graph root t path) other.0
        (position_at (shaped shape Equal) other.0 other.1 t source) made

    -- The graft has a result, but the new value does not have its type. `fault` is the first fault
    -- of the new value.
    abbrev pub IsIllGrafted : List ℕ → Other → List ℕ → List Obj → Val → Fault → Type 0
    IsIllGrafted path other source graph root fault =
        (made : List Obj × Val) × IsGrafted path other source graph root (Ok made)
        × IsLeastFault (shaped shape Equal) made.0 made.1 t fault

    -- The answer to a graft.
    abbrev pub IsGraftAnswer : List ℕ → Other → List ℕ → List Obj → Val → EditAnswer T → Type 0
    IsGraftAnswer path other source graph root (Ok made) =
        IsGrafted path other source graph root (Ok made)
        × HasType (shaped shape Equal) made.0 made.1 t
    IsGraftAnswer path other source graph root (Err (ill_typed fault)) =
        IsIllGrafted path other source graph root fault
    IsGraftAnswer path other source graph root (Err reason) =
        IsGrafted path other source graph root (Err reason)

-- ---- the result of a call, by the numbers of a table

-- The answer to a graft at type 0 of a table.
abbrev pub IsGraftAnswerIn : Tabled → List ℕ → Other → List ℕ → List Obj → Val → EditAnswer ℕ
    → Type 0
IsGraftAnswerIn table path other source graph root answer =
    IsGraftAnswer (shape_in table) (SameClass table) 0 path other source graph root answer

abbrev pub IsNotGraftedFor : Tabled → List ℕ → Other → List ℕ → List Obj → Val
    → Option (Reason ℕ) → Type 0
IsNotGraftedFor table path other source graph root None = ⊤
IsNotGraftedFor table path other source graph root (Some reason) =
    IsGraftAnswerIn table path other source graph root (Err reason)

-- The result of a call. If the result is `Ok`, the value is grafted. If the result is a refusal,
-- the value is unchanged, and the refusal states a reason or that memory ran out.
abbrev pub IsGraftApplied : Tabled → List ℕ → Other → List ℕ → List Obj → Val → List Obj → Val
    → Result (Unit {0}) EditRefusal → Type 0
IsGraftApplied table path other source old old_root new new_root (Ok unit) =
    IsGraftAnswerIn table path other source old old_root (Ok (new, new_root))
IsGraftApplied table path other source old old_root new new_root (Err refusal) =
    (new ≡ old) × (new_root ≡ old_root)
    × IsNotGraftedFor table path other source old old_root (reason_of refusal)
