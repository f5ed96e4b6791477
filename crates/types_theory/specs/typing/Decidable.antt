-- Conditions that make it decidable whether a value has a type.
use Rattle.std.specs.Prelude.{ℕ, ◌≡◌, ◌⊎◌, List, Some, Contains}
use Rattle.base_data.specs.declared.model.value.Val.{Val}
use Rattle.base_data.specs.declared.model.value.Obj.{Obj}
use Rattle.types_spec.specs.types.Shapes.{Shapes}
use Rattle.types_spec.specs.types.Fault.{field_of}

-- The relations of the shapes are decidable. Every field that a type requires exists and is
-- required at one type only.
pub record AreDecidable {T : Type 0} (shapes : Shapes T) : Type 0 where
  -- It is decidable whether a value matches the representation of a type.
  pub fits : (graph : List Obj) (v : Val) (t : T)
      → shapes.fits graph v t ⊎ (¬ shapes.fits graph v t)
  -- It is decidable whether an object is mutable at a type.
  pub mutable : (graph : List Obj) (o : ℕ) (t : T)
      → shapes.mutable graph o t ⊎ (¬ shapes.mutable graph o t)
  -- It is decidable whether two types are equal.
  pub equal : (t u : T) → shapes.equal t u ⊎ (¬ shapes.equal t u)
  -- Every required field exists.
  pub there : (graph : List Obj) (v : Val) (t : T) (i : ℕ) (u : T)
      → Contains (shapes.needs graph v t) (i, u) → (w : Val) × (field_of graph v i ≡ Some w)
  -- No field is required at two different types.
  pub once : (graph : List Obj) (v : Val) (t : T) (i : ℕ) (u w : T)
      → Contains (shapes.needs graph v t) (i, u) → Contains (shapes.needs graph v t) (i, w) → u ≡ w

-- The type `t` is equal to one of `types`.
abbrev pub IsAmong : {T : Type 0} → Shapes T → List T → T → Type 0
IsAmong {T} shapes types t = (u : T) × Contains types u × shapes.equal t u

-- Finitely many types are reachable from the type `t`, up to equality. The type `t` is among
-- `types`. If a type in `types` requires a field at another type, in any graph and at any value,
-- then the other type is among `types`.
pub record ReachesFew {T : Type 0} (shapes : Shapes T) (t : T) : Type 0 where
  pub types : List T
  pub own : IsAmong shapes types t
  pub closed : (graph : List Obj) (v : Val) (u : T) (i : ℕ) (w : T) → Contains types u
      → Contains (shapes.needs graph v u) (i, w) → IsAmong shapes types w
