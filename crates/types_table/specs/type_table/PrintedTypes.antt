-- The text of a type, computed part by part from the last part.
use Rattle.std.specs.Prelude.{ℕ, ◌<◌, ◌≡◌, Bool, true, false, List, [], ◌∷◌, ◌++◌, length}
use Rattle.std.specs.Prelude.{Option, Some, None, codes}
use Rattle.types_spec.specs.types.Ty.{Ty, part, tag, tag_of, including}
use Rattle.types_spec.specs.types.TypeNodes.{type_at}
use Rattle.types_spec.specs.types.TypeText.{Stem, chunks_of, is_product, type_text}
use Rattle.types_table.specs.declared.type_table.waiting.Waiting.{Waiting}
use Rattle.types_table.specs.declared.type_table.waiting.Waiting.TheVariants as waiting

-- ---- parts

-- The type without its last part.
abbrev pub whole_of : Ty → Option Ty
whole_of (part whole added) = Some whole
whole_of (tag whole name) = Some whole
whole_of (tag_of whole name argument) = Some whole
whole_of (including whole included) = Some whole
whole_of t = None

-- The beginning of a type: the type without any of its parts.
unfoldable pub stem : Ty → Stem
stem t = (chunks_of t).stem

abbrev pub is_tuple : Ty → Bool
is_tuple t = is_product (stem t)

-- The text of a type, in parentheses if `asked` and `is_tuple` are true.
abbrev pub in_parentheses : Bool → Bool → List ℕ → List ℕ
in_parentheses true true text = codes "(" ++ text ++ codes ")"
in_parentheses asked is_tuple text = text

-- The text of a type's last part. If `asked` is true and the part is a tuple, the part is written
-- in parentheses.
abbrev pub added_text : Bool → Ty → List ℕ
added_text asked (part whole added) = in_parentheses asked (is_tuple added) (type_text added)
added_text asked (tag whole name) = codes "`" ++ name
added_text asked (tag_of whole name argument) =
    codes "`" ++ name ++ codes " of " ++ type_text argument
added_text asked (including whole included) =
    in_parentheses asked (is_tuple included) (type_text included)
added_text asked t = []

-- The texts of a type's parts, with `between` between any two parts and `end` after the last part.
abbrev pub parts_text : Bool → List ℕ → List ℕ → Ty → List ℕ
parts_text asked between end (part whole added) =
    parts_text asked between between whole ++ added_text asked (part whole added) ++ end
parts_text asked between end (tag whole name) =
    parts_text asked between between whole ++ added_text asked (tag whole name) ++ end
parts_text asked between end (tag_of whole name argument) =
    parts_text asked between between whole ++ added_text asked (tag_of whole name argument) ++ end
parts_text asked between end (including whole included) =
    parts_text asked between between whole ++ added_text asked (including whole included) ++ end
parts_text asked between end t = []

-- The text of a name's arguments, which precede the name.
abbrev pub some_arguments : Option Ty → Ty → List ℕ
some_arguments None t = added_text true t ++ codes " "
some_arguments (Some first) t = codes "(" ++ parts_text false (codes ", ") [] t ++ codes ") "

abbrev pub arguments_after : Option Ty → Ty → List ℕ
arguments_after None t = []
arguments_after (Some whole) t = some_arguments (whole_of whole) t

abbrev pub arguments_text : Ty → List ℕ
arguments_text t = arguments_after (whole_of t) t

-- ---- waiting items

abbrev pub text_of_waiting : List Ty → Waiting → List ℕ
text_of_waiting types (waiting.Text bytes) = bytes.now
text_of_waiting types (waiting.Added number asked) = added_text asked (type_at types number)

-- The text of all waiting items. The last item of the list comes first in the text.
abbrev pub waiting_text : List Ty → List Waiting → List ℕ
waiting_text types [] = []
waiting_text types (next ∷ later) = waiting_text types later ++ text_of_waiting types next

-- The item is bytes, or refers to a number of `types`.
abbrev pub IsWithin : List Ty → Waiting → Type 0
IsWithin types (waiting.Text bytes) = Unit {0}
IsWithin types (waiting.Added number asked) = number < length types

-- The written text followed by the text of all waiting items has grown: `text` was inserted before
-- the text of the items that were waiting before.
abbrev pub IsWritten : List Ty → List ℕ → List ℕ → List Waiting → List Waiting → List ℕ → Type 0
IsWritten types old new old_waiting new_waiting text =
    new ++ waiting_text types new_waiting ≡ old ++ text ++ waiting_text types old_waiting
