-- An object that has unequal types and is mutable at one of the types.
use Rattle.std.specs.Prelude.{ℕ, ◌≡◌, ◌⊎◌, List}
use Rattle.base_data.specs.declared.model.value.Val.{Val}
use Rattle.base_data.specs.declared.model.value.Val.TheVariants as vals
use Rattle.base_data.specs.declared.model.value.Obj.{Obj}
use Rattle.types_spec.specs.types.Shapes.{Shapes}

module _ {T : Type 0} (shapes : Shapes T) (graph : List Obj) where
  pub record AreAtOdds (object : ℕ) (one other : T) : Type 0 where
    pub unequal : ¬ shapes.equal one other
    pub mutable : shapes.mutable graph object one ⊎ shapes.mutable graph object other

  -- The two values are one object, and the types are at odds at the object.
  abbrev pub IsShared : Val → T → Val → T → Type 0
  IsShared (vals.Int z) one again other = ⊥
  IsShared (vals.Atom tag) one again other = ⊥
  IsShared (vals.Ref o) one again other = (again ≡ vals.Ref o) × AreAtOdds o one other
