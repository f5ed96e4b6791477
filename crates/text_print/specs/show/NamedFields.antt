-- The names that the text of a value needs exist, by the representation of the value's type.
use Rattle.std.specs.Prelude.{ℕ, ℤ, ◌≡◌, ◌⊎◌, List, [], length, slice_get, find, IsSome, IsSomeAnd}
use Rattle.base_data.specs.declared.model.value.Val.{Val}
use Rattle.base_data.specs.declared.model.value.Val.TheVariants as vals
use Rattle.base_data.specs.declared.model.value.Obj.{Obj}
use Rattle.base_data.specs.declared.model.value.Obj.TheVariants as objects
use Rattle.types_spec.specs.declared.types.names.ConstrNames.{ConstrNames}
use Rattle.types_spec.specs.declared.types.names.Names.{Names}
use Rattle.types_spec.specs.declared.types.shape.ShapeOf.{ShapeOf}
use Rattle.types_spec.specs.declared.types.shape.ShapeOf.TheVariants as shapes
use Rattle.text_print.specs.leaves.Frames.{is_hash, natural, tag_of_values}

-- Some tag among the names has hash `z`.
abbrev pub HasTag : Names → ℤ → Type 0
HasTag names z = IsSome (find (is_hash z) names.tags)

-- The fields have no names, as in a tuple, or each of the `n` fields has a name.
abbrev pub AreForFields : List (List ℕ) → ℕ → Type 0
AreForFields fields n = (fields ≡ []) ⊎ (length fields ≡ n)

module _ {T : Type 0} where
  -- If the representation has constant constructors or tags, then the integer `z` has a name.
  abbrev pub HasIntName : ShapeOf T → Names → ℤ → Type 0
  HasIntName (shapes.Sum constants blocks) names z = IsSome (slice_get names.constants (natural z))
  HasIntName (shapes.Poly tags) names z = HasTag names z
  HasIntName shape names z = Unit {0}

  -- The names that the text of a block needs exist: the name of a constructor, of fields, or of a
  -- tag.
  abbrev pub HasBlockNames : ShapeOf T → Names → ℕ → List Val → Type 0
  HasBlockNames (shapes.Sum constants blocks) names tag values =
      IsSomeAnd (slice_get names.constructors tag)
      (λ (c : ConstrNames). AreForFields c.fields (length values))
  HasBlockNames (shapes.Product mutable ts) names tag values =
      AreForFields names.fields (length values)
  HasBlockNames (shapes.Poly tags) names tag values = HasTag names (tag_of_values values)
  HasBlockNames shape names tag values = Unit {0}

  -- The fields of a flat float record have names.
  abbrev pub HasDoublesNames : ShapeOf T → Names → ℕ → Type 0
  HasDoublesNames (shapes.FlatFloats mutable n) names many = length names.fields ≡ many
  HasDoublesNames shape names many = Unit {0}

  abbrev pub HasObjectNames : ShapeOf T → Names → Obj → Type 0
  HasObjectNames shape names (objects.Block tag values) = HasBlockNames shape names tag values
  HasObjectNames shape names (objects.Doubles all) = HasDoublesNames shape names (length all)
  HasObjectNames shape names object = Unit {0}

  -- The names that the text of a value needs exist, except the names that its parts need.
  abbrev pub HasItsNames : ShapeOf T → Names → List Obj → Val → Type 0
  HasItsNames shape names graph (vals.Int z) = HasIntName shape names z
  HasItsNames shape names graph (vals.Atom tag) = Unit {0}
  HasItsNames shape names graph (vals.Ref o) =
      IsSomeAnd (slice_get graph o) (HasObjectNames shape names)
