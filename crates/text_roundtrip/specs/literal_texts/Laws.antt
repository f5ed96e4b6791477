-- The text of each value at a type is a literal that starts as the value.
use Rattle.std.specs.Prelude.{ℕ, ℤ, ◌<◌, ◌≤◌, IsTrue, IsSome, List, length, codes}
use Rattle.base_data.specs.model.Graph.{IsInteger}
use Rattle.base_data.specs.declared.model.value.Val.{Val}
use Rattle.base_data.specs.declared.model.value.Val.TheVariants as vals
use Rattle.base_data.specs.declared.model.value.Obj.{Obj}
use Rattle.types_spec.specs.declared.types.names.Names.{Names}
use Rattle.types_spec.specs.declared.types.shape.ShapeOf.{ShapeOf}
use Rattle.types_spec.specs.types.Fitting.{fits_int, fits_atom, object_fields, block_fields}
use Rattle.marshal_spec.specs.format.Token.{IsLeaf}
use Rattle.text_print.specs.leaves.Frames.{int_text, object_text, tag_of_values}
use Rattle.text_literal.specs.parser.Starts.{small, whole}
use Rattle.text_print.specs.show.NamedFields.{HasIntName, HasObjectNames, HasBlockNames}
use Rattle.text_roundtrip.specs.literal_texts.Blocks.{IsBlockAt}
use Rattle.text_roundtrip.specs.literal_texts.PlainLiterals.{IsPlain}
use Rattle.text_roundtrip.specs.literal_texts.Readable.{IsReadable}

-- The text of a value is a literal that starts as the value, for any shapes and names. The law
-- requires that the value fits the type, that the value's name exists, and that the names can be
-- read back.
pub record ValuesAreLiterals {T : Type 0} (shape : T → ShapeOf T) (names : T → Names) : Type 0 where
  pub integers : (t : T) (z : ℤ) → IsReadable (shape t) (names t) → IsInteger z
      → IsTrue (fits_int (shape t) z) → HasIntName (shape t) (names t) z
      → IsPlain t (shape t) (names t) (int_text (shape t) (names t) z) (small (vals.Int z))
  pub atoms : (t : T) (tag : ℕ) → IsReadable (shape t) (names t) → IsTrue (fits_atom (shape t) tag)
      → IsPlain t (shape t) (names t) (codes "[||]") (small (vals.Atom tag))
  pub objects : (t : T) (object : Obj) → IsReadable (shape t) (names t) → IsLeaf object
      → IsSome (object_fields (shape t) object) → HasObjectNames (shape t) (names t) object
      → IsPlain t (shape t) (names t) (object_text (shape t) (names t) object) (whole object)
  pub blocks : (t : T) (tag : ℕ) (values : List Val) → IsReadable (shape t) (names t)
      → tag ≤ 243 → 0 < length values → IsInteger (tag_of_values values)
      → IsSome (block_fields (shape t) tag values) → HasBlockNames (shape t) (names t) tag values
      → IsBlockAt shape names t (shape t) (names t) tag values
