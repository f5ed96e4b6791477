-- An interface to the representations of types (Henry, Mauny, Chailloux and Manoury 2012;
-- `mlvalues.h`).
use Rattle.std.specs.Prelude.{ℕ, List}
use Rattle.base_data.specs.declared.model.value.Val.{Val}
use Rattle.base_data.specs.declared.model.value.Obj.{Obj}

-- The requirements on a value of a graph at each type of `T`. Other definitions are generic in this
-- interface.
pub record Shapes (T : Type 0) : Type 1 where
  -- The type allows the value, whatever the value's fields contain.
  pub fits : List Obj → Val → T → Type 0
  -- The required fields of the value, by index and type. If the value does not match the type or
  -- has no fields, there are no required fields.
  pub needs : List Obj → Val → T → List (ℕ × T)
  -- The object matches the type and is mutable at the type.
  pub mutable : List Obj → ℕ → T → Type 0
  -- The two types are equal.
  pub equal : T → T → Type 0
