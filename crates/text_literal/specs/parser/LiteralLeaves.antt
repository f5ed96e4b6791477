-- What each `Leaf` of the executable code means in the definitions.
use Rattle.std.specs.Prelude.{ℕ, pos, ◌==◌}
use Rattle.base_data.specs.model.Graph.{IsValue}
use Rattle.base_data.specs.declared.model.value.Val.TheVariants as vals
use Rattle.base_data.specs.declared.model.value.Obj.TheVariants as objects
use Rattle.types_spec.specs.declared.types.shape.ShapeOf.{ShapeOf}
use Rattle.types_spec.specs.declared.types.shape.ShapeOf.TheVariants as shapes
use Rattle.marshal_heap.specs.heap.Heap.{custom_object}
use Rattle.types_lex.specs.declared.lexeme.LexemeKind.{LexemeKind}
use Rattle.types_lex.specs.declared.lexeme.LexemeKind.TheVariants as kinds
use Rattle.types_lex.specs.declared.lexeme.Symbol.TheVariants as symbols
use Rattle.text_literal.specs.literal_grammar.Literal.{LiteralHead, upper_head, tag_head, cons_head}
use Rattle.text_literal.specs.literal_grammar.Literal.{empty_head}
use Rattle.text_literal.specs.literal_grammar.Literal.{ref_head, ref_name}
use Rattle.text_literal.specs.declared.parser.leaf.Leaf.{Leaf}
use Rattle.text_literal.specs.declared.parser.leaf.Leaf.TheVariants as leaves
use Rattle.text_literal.specs.parser.Starts.{Start, mismatch, out_of_range, small, whole, if_fits}

abbrev pub leaf_in : Leaf → Start ℕ
leaf_in leaves.Mismatch = mismatch
leaf_in leaves.OutOfRange = out_of_range
leaf_in (leaves.Small v) = small v
leaf_in (leaves.Bytes bytes) = whole (objects.Bytes bytes.now)
leaf_in (leaves.Double bits) = whole (objects.Double bits)
leaf_in (leaves.Custom c) = whole (custom_object c)

-- If the leaf is small, then its value is an integer of at most 63 bits, or an atom whose tag is at
-- most 243. Every other leaf is sound.
abbrev pub IsSound : Leaf → Type 0
IsSound (leaves.Small v) = IsValue 0 v
IsSound leaf = Unit {0}

-- If the shape allows exactly the integers from 0 to `many - 1`, the integer `n`. For any other
-- shape, a mismatch.
abbrev pub below_of : ShapeOf ℕ → ℕ → ℕ → Start ℕ
below_of (shapes.Below limit) many n = if_fits (limit == many) (small (vals.Int (pos n)))
below_of shape many n = mismatch

-- The lexeme with which a head (a constructor, a tag, `::`, `[]` or `ref`) begins.
abbrev pub lead_of : LiteralHead → LexemeKind
lead_of (upper_head x) = kinds.Upper x
lead_of (tag_head x) = kinds.Tag x
lead_of cons_head = kinds.Symbol symbols.DoubleColon
lead_of empty_head = kinds.Symbol symbols.OpenBracket
lead_of ref_head = kinds.Lower ref_name
