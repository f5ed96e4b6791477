-- The tokens that a walk returns.
use Rattle.std.specs.Prelude.{ℕ, ◌+◌, ◌^◌, ◌<◌, ◌≤◌, ◌≡◌, List, length, Option, Some, None}
use Rattle.std.specs.Prelude.{slice_get}
use Rattle.base_data.specs.declared.model.value.Val.TheVariants as vals
use Rattle.base_data.specs.declared.model.value.Obj.{Obj}
use Rattle.base_data.specs.declared.model.value.Obj.TheVariants as objects
use Rattle.base_data.specs.model.Graph.{IsInteger}
use Rattle.marshal_spec.specs.format.Token.{Token, integer, atom, shared, block, leaf}
use Rattle.marshal_heap.specs.heap.Heap.{object_at, word_of}
use Rattle.marshal_write.specs.declared.write.write_walk.WriteStep.{WriteStep}
use Rattle.marshal_write.specs.declared.write.write_walk.WriteStep.TheVariants as steps

-- The token that a step denotes in a graph.
abbrev pub token_in : List Obj → WriteStep → Token
token_in g (steps.Integer z) = integer z
token_in g (steps.Atom tag) = atom tag
token_in g (steps.Shared offset) = shared offset
token_in g (steps.Block tag size) = block tag size
token_in g (steps.Leaf k word) = leaf (object_at g k)

-- The numbers in the step are in range for the graph.
abbrev pub IsHeld : List Obj → WriteStep → Type 0
IsHeld g (steps.Integer z) = IsInteger z
IsHeld g (steps.Atom tag) = tag ≤ 243
IsHeld g (steps.Shared offset) = 1 ≤ offset
IsHeld g (steps.Block tag size) = (tag ≤ 243) × (size < 2 ^ 54)
IsHeld g (steps.Leaf k word) = (k < length g) × (word ≡ word_of g (vals.Ref k))

-- The step is token `n` of the list, or `None` if the list has `n` tokens.
abbrev pub IsNext : List Obj → List Token → ℕ → Option WriteStep → ℕ → Type 0
IsNext g all n None m = (n ≡ length all) × (m ≡ n)
IsNext g all n (Some step) m = (slice_get all n ≡ Some (token_in g step)) × (m ≡ n + 1)

-- The token of an object at its first visit.
abbrev pub object_token : Obj → Token
object_token (objects.Block tag values) = block tag (length values)
object_token object = leaf object
