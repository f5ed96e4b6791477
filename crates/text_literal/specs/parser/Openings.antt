-- What each `Opening` of the executable code means in the definitions.
use Rattle.std.specs.Prelude.{ℕ, ℤ, ◌≤◌, IfSome, List, [], ◌∷◌, Option, Some, None}
use Rattle.base_data.specs.model.Graph.{IsInteger}
use Rattle.base_data.specs.declared.model.value.Val.{Val}
use Rattle.base_data.specs.declared.model.value.Val.TheVariants as vals
use Rattle.types_spec.specs.declared.types.shape.ShapeOf.{ShapeOf}
use Rattle.types_spec.specs.declared.types.shape.ShapeOf.TheVariants as shapes
use Rattle.text_literal.specs.declared.parser.opening.Opening.{Opening}
use Rattle.text_literal.specs.declared.parser.opening.Opening.TheVariants as openings
use Rattle.text_literal.specs.declared.parser.opening.PartTypes.{PartTypes}
use Rattle.text_literal.specs.declared.parser.opening.PartTypes.TheVariants as parts
use Rattle.text_literal.specs.parser.Starts.{Start, mismatch, block, type_in}

-- The type of part `i` of a block. If the part has no type of its own, the type is t.
abbrev pub types_in : ℕ → PartTypes → ℕ → ℕ
types_in t (parts.Listed types) i = type_in types.now t i
types_in t (parts.Each u) i = u

abbrev pub prefix_of : Option ℤ → List Val
prefix_of None = []
prefix_of (Some hash) = vals.Int hash ∷ []

abbrev pub opening_in : ℕ → Opening → Start ℕ
opening_in t openings.Mismatch = mismatch
opening_in t (openings.Block tag hash types) = block tag (prefix_of hash) (types_in t types)

-- The opening's tag is the tag of a block, and the hash before the parts has at most 63 bits.
abbrev pub IsSound : Opening → Type 0
IsSound openings.Mismatch = Unit {0}
IsSound (openings.Block tag hash types) = (tag ≤ 243) × IfSome hash IsInteger

abbrev pub IsNotFlat : ShapeOf ℕ → Type 0
IsNotFlat (shapes.FlatFloats mutable many) = ⊥
IsNotFlat shape = Unit {0}
