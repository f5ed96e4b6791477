-- The conditions under which values can be checked against representations, for a given set of
-- types.
use Rattle.std.specs.Prelude.{ℕ, ◌⊎◌, List, Contains}
use Rattle.base_data.specs.declared.model.value.Val.{Val}
use Rattle.base_data.specs.declared.model.value.Obj.{Obj}
use Rattle.types_spec.specs.types.Shapes.{Shapes}

-- The set of all types.
abbrev pub Everything : {T : Type 0} → T → Type 0
Everything t = Unit {0}

-- The laws of representations. Equality is symmetric and transitive. Equality is reflexive on the
-- given types, and the fields that given types require have given types. If a type is equal to a
-- given type, the same values match the two types, and the same objects are mutable at the two
-- types. The two types require the same fields at equal types.
pub record AreLawful {T : Type 0} (shapes : Shapes T) (InQuestion : T → Type 0) : Type 0 where
  pub reflexive : (t : T) → InQuestion t → shapes.equal t t
  pub symmetric : (t u : T) → shapes.equal t u → shapes.equal u t
  pub transitive : (t u w : T) → shapes.equal t u → shapes.equal u w → shapes.equal t w
  pub closed :
      (graph : List Obj) (v : Val) (t : T) (i : ℕ) (a : T) → InQuestion t
      → Contains (shapes.needs graph v t) (i, a) → InQuestion a
  pub fits :
      (graph : List Obj) (v : Val) (t u : T) → InQuestion t ⊎ InQuestion u → shapes.equal t u
      → shapes.fits graph v t → shapes.fits graph v u
  pub needs :
      (graph : List Obj) (v : Val) (t u : T) (i : ℕ) (a : T) → InQuestion t ⊎ InQuestion u
      → shapes.equal t u → Contains (shapes.needs graph v t) (i, a)
      → (b : T) × Contains (shapes.needs graph v u) (i, b) × shapes.equal a b
  pub mutable :
      (graph : List Obj) (o : ℕ) (t u : T) → InQuestion t ⊎ InQuestion u → shapes.equal t u
      → shapes.mutable graph o t → shapes.mutable graph o u
