-- What each `Start` of the executable code means in the definitions.
use Rattle.std.specs.Prelude.{ℕ}
use Rattle.base_data.specs.declared.model.value.Obj.TheVariants as objects
use Rattle.text_literal.specs.declared.parser.start.Start.{Start as Code}
use Rattle.text_literal.specs.declared.parser.start.Start.TheVariants as codes
use Rattle.text_literal.specs.parser.Starts.{Start, whole}
use Rattle.text_literal.specs.parser.LiteralLeaves as leaves
use Rattle.text_literal.specs.parser.Openings as openings

-- The start in the definitions that the code's start denotes at the type with index t.
abbrev pub start_in : ℕ → Code → Start ℕ
start_in t (codes.Leaf leaf) = leaves.leaf_in leaf
start_in t (codes.Doubles all) = whole (objects.Doubles all.items)
start_in t (codes.Opening opening) = openings.opening_in t opening

abbrev pub IsSound : Code → Type 0
IsSound (codes.Leaf leaf) = leaves.IsSound leaf
IsSound (codes.Doubles all) = Unit {0}
IsSound (codes.Opening opening) = openings.IsSound opening
