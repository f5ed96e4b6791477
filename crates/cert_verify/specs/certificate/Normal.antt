-- The pairs that a check writes for a value of the type: the pairs that paths reach, in one fixed
-- order.
use Rattle.std.specs.Prelude.{ℕ, ◌<◌, ◌≡◌, List, Some, Contains}
use Rattle.base_data.specs.declared.model.value.Val.{Val}
use Rattle.base_data.specs.declared.model.value.Val.TheVariants as vals
use Rattle.base_data.specs.declared.model.value.Obj.{Obj}
use Rattle.types_spec.specs.types.Shapes.{Shapes}
use Rattle.types_spec.specs.types.Fault.{value_at}
use Rattle.types_spec.specs.types.Table.{Table, table_shapes}
use Rattle.types_spec.specs.types.Typing.{IsListed}
use Rattle.cert_format.specs.Increasing.{AreIncreasing}

-- `t` is the least type number of its class: no lesser number has an equal type.
abbrev pub IsLeast : Table → ℕ → Type 0
IsLeast table t = (u : ℕ) → u < t → ¬ (table_shapes table).equal u t

-- The pairs are increasing, and each type is the least of its class.
pub record AreNormal (table : Table) (pairs : List (ℕ × ℕ)) : Type 0 where
  pub increasing : AreIncreasing pairs
  pub least : (o t : ℕ) → Contains pairs (o, t) → IsLeast table t

-- The two lists have the same objects at equal types.
pub record AreTheSame {T : Type 0} (shapes : Shapes T) (pairs others : List (ℕ × T)) : Type 0 where
  pub there : (o : ℕ) (t : T) → Contains pairs (o, t) → IsListed shapes others (vals.Ref o) t
  pub back : (o : ℕ) (t : T) → Contains others (o, t) → IsListed shapes pairs (vals.Ref o) t

-- Some path leads to the object at an equal type.
pub record IsReachedBy {T : Type 0} (shapes : Shapes T) (graph : List Obj) (root : Val) (t : T)
    (o : ℕ) (u : T) : Type 0 where
  pub path : List ℕ
  pub type : T
  pub leads : value_at shapes graph root t path ≡ Some (vals.Ref o, type)
  pub same : shapes.equal type u

-- The pairs that paths reach, in the order of an entry.
pub record AreReached (table : Table) (graph : List Obj) (root : Val)
    (pairs : List (ℕ × ℕ)) : Type 0 where
  pub normal : AreNormal table pairs
  pub led : (o t : ℕ) → Contains pairs (o, t) → IsReachedBy (table_shapes table) graph root 0 o t
  pub all :
      (path : List ℕ) (o u : ℕ)
      → value_at (table_shapes table) graph root 0 path ≡ Some (vals.Ref o, u)
      → IsListed (table_shapes table) pairs (vals.Ref o) u
