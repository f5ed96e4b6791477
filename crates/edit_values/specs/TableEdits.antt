-- Edits by the numbers of a table of types.
use Rattle.std.specs.Prelude.{ℕ, ◌≡◌, Option, Some, None, Result, Ok, Err, List, slice_get, ⊤}
use Rattle.base_data.specs.declared.model.value.Val.{Val}
use Rattle.base_data.specs.declared.model.value.Obj.{Obj}
use Rattle.types_spec.specs.types.LeastFault.{IsLeastFault}
use Rattle.types_spec.specs.types.Table.{table_shapes}
use Rattle.types_spec.specs.types.Typing.{HasType}
use Rattle.types_table.specs.declared.type_table.tabled.Tabled.{Tabled}
use Rattle.types_table.specs.type_table.Made.{table_of}
use Rattle.text_literal.specs.parser.LiteralAnswers.{shape_in, names_in}
use Rattle.text_path.specs.declared.edits.Edit.{Edit}
use Rattle.edit_values.specs.declared.edit_refusal.EditRefusal.{EditRefusal}
use Rattle.edit_values.specs.declared.edit_refusal.EditRefusal.TheVariants as refusals
use Rattle.edit_values.specs.EditedValues.{EditAnswer, IsAnswer}
use Rattle.edit_values.specs.Reasons.{Reason, reason_of}

-- The type numbers `i` and `j` have equal types: they are in one class of the table.
abbrev pub SameClass : Tabled → ℕ → ℕ → Type 0
SameClass table i j = slice_get table.classes i ≡ slice_get table.classes j

-- The answer to an edit of a value at type 0 of a table.
abbrev pub IsAnswerIn : Tabled → Edit → List Obj → Val → EditAnswer ℕ → Type 0
IsAnswerIn table edit graph root answer =
    IsAnswer (shape_in table) (names_in table) (SameClass table) 0 edit graph root answer

-- ---- the result of a call

abbrev pub IsRefusedFor : Tabled → Edit → List Obj → Val → Option (Reason ℕ) → Type 0
IsRefusedFor table edit graph root None = ⊤
IsRefusedFor table edit graph root (Some reason) = IsAnswerIn table edit graph root (Err reason)

-- The result of a call. If the result is `Ok`, the value is edited. If the result is a refusal, the
-- value is unchanged, and the refusal states a reason or that memory ran out.
abbrev pub IsApplied : Tabled → Edit → List Obj → Val → List Obj → Val
    → Result (Unit {0}) EditRefusal → Type 0
IsApplied table edit old old_root new new_root (Ok unit) =
    IsAnswerIn table edit old old_root (Ok (new, new_root))
IsApplied table edit old old_root new new_root (Err refusal) =
    (new ≡ old) × (new_root ≡ old_root) × IsRefusedFor table edit old old_root (reason_of refusal)

-- The refusal states the first fault of the new value, or that memory ran out.
abbrev pub IsNoneFor : Tabled → List Obj × Val → EditRefusal → Type 0
IsNoneFor table made (refusals.IllTyped fault) =
    IsLeastFault (table_shapes (table_of table)) made.0 made.1 0 fault
IsNoneFor table made refusals.Memory = ⊤
IsNoneFor table made refusal = ⊥

-- The result of checking a new value. If the result is `Ok`, the new value has the type and
-- remains. If the result is a refusal, the value before the edit remains.
abbrev pub IsKept : Tabled → List Obj × Val → List Obj → Val → List Obj → Val
    → Result (Unit {0}) EditRefusal → Type 0
IsKept table made old old_root new new_root (Ok unit) =
    ((new, new_root) ≡ made) × HasType (table_shapes (table_of table)) made.0 made.1 0
IsKept table made old old_root new new_root (Err refusal) =
    (new ≡ old) × (new_root ≡ old_root) × IsNoneFor table made refusal

abbrev pub IsReason : EditAnswer ℕ → Option (Reason ℕ) → Type 0
IsReason answer None = ⊤
IsReason answer (Some reason) = answer ≡ Err reason

-- If memory does not run out, the result of the call is the answer.
abbrev pub Gives : EditAnswer ℕ → List Obj → Val → Result (Unit {0}) EditRefusal → Type 0
Gives answer new new_root (Ok unit) = answer ≡ Ok (new, new_root)
Gives answer new new_root (Err refusal) = IsReason answer (reason_of refusal)
