-- The reasons why an edit is refused, generic in the types, and their texts for a given form of
-- positions.
use Rattle.std.specs.Prelude.{ℕ, Option, Some, None, List, [], ◌++◌, codes, decimal}
use Rattle.base_data.specs.model.PathText.{path_text}
use Rattle.types_spec.specs.declared.types.fault.Fault.{Fault}
use Rattle.types_spec.specs.declared.types.fault.Fault.TheVariants.{Mismatch, Conflict}
use Rattle.text_literal.specs.declared.parser.literal_fault.LiteralFault.{LiteralFault}
use Rattle.text_literal.specs.declared.parser.literal_fault.LiteralFault.TheVariants as literals
use Rattle.text_literal.specs.parser.LiteralReading.{LiteralRefusal, mismatch_at, int_range_at}
use Rattle.text_literal.specs.parser.LiteralReading.{label_at}
use Rattle.edit_values.specs.declared.edit_refusal.EditSide.{EditSide}
use Rattle.edit_values.specs.declared.edit_refusal.EditSide.TheVariants.{Left, Right}
use Rattle.edit_values.specs.declared.edit_refusal.EditRefusal.{EditRefusal}
use Rattle.edit_values.specs.declared.edit_refusal.EditRefusal.TheVariants as refusals

pub data Reason (T : Type 0) : Type 0 where
  -- The path of this side has a step whose field is not required. The step's index counts from 0.
  no_field : EditSide → ℕ → Reason T
  -- The value to be copied is not an object.
  not_block : Reason T
  -- The lexemes are not a literal, because of the lexeme at this byte.
  no_literal : ℕ → Reason T
  -- The literal does not have its type, for this reason at a byte.
  misread : LiteralRefusal T → Reason T
  -- The edited value does not have its type. `Fault` is the first fault of the edited value.
  ill_typed : Fault → Reason T

-- ---- texts

abbrev pub side_text : EditSide → List ℕ
side_text Left = codes "left"
side_text Right = codes "right"

abbrev pub fault_positions : Fault → List ℕ
fault_positions (Mismatch path) = path_text path
fault_positions (Conflict first second) = path_text first ++ codes " and " ++ path_text second

-- The text for a literal in a script.
abbrev pub in_script : List ℕ → List ℕ
in_script text = codes "Literal " ++ text

module _ {T : Type 0} (type_text : T → List ℕ) (known : ℕ → List ℕ) where
  -- The reason why a literal has no value. Reasons that are not about literals have the empty text.
  abbrev pub literal_text : Reason T → List ℕ
  literal_text (no_literal position) = codes "Syntax at " ++ known position
  literal_text (misread (mismatch_at position t)) =
      codes "Misfit at " ++ known position ++ codes ": expected " ++ type_text t
  literal_text (misread (int_range_at position)) = codes "IntRange at " ++ known position
  literal_text (misread (label_at position)) = codes "Label at " ++ known position
  literal_text reason = []

  abbrev pub reason_text : Reason T → List ℕ
  reason_text (no_field side step) =
      codes "NoField(" ++ side_text side ++ codes ", " ++ decimal step ++ codes ")"
  reason_text not_block = codes "NotBlock"
  reason_text (no_literal position) = in_script (literal_text (no_literal position))
  reason_text (misread refusal) = in_script (literal_text (misread refusal))
  reason_text (ill_typed fault) = codes "IllTyped at " ++ fault_positions fault

  -- If there is no reason, the text is empty.
  abbrev pub reason_or_none : Option (Reason T) → List ℕ
  reason_or_none None = []
  reason_or_none (Some reason) = reason_text reason

  abbrev pub literal_or_none : Option (Reason T) → List ℕ
  literal_or_none None = []
  literal_or_none (Some reason) = literal_text reason

-- ---- refusals of calls, whose types are numbers

abbrev pub literal_reason : LiteralFault → Option (Reason ℕ)
literal_reason (literals.Syntax position) = Some (no_literal position)
literal_reason (literals.Mismatch position t) = Some (misread (mismatch_at position t))
literal_reason (literals.IntRange position) = Some (misread (int_range_at position))
literal_reason (literals.Label position) = Some (misread (label_at position))
literal_reason literals.Memory = None

-- The reason of a call's refusal, or `None` if memory ran out.
abbrev pub reason_of : EditRefusal → Option (Reason ℕ)
reason_of (refusals.NoField side step) = Some (no_field side step)
reason_of refusals.NotBlock = Some not_block
reason_of (refusals.Literal fault) = literal_reason fault
reason_of (refusals.IllTyped fault) = Some (ill_typed fault)
reason_of refusals.Memory = None
