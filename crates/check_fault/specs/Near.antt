-- Type mismatches near the root.
use Rattle.std.specs.Prelude.{ℕ, ◌≡◌, ◌<◌, List, [], ◌∷◌, length, Some}
use Rattle.base_data.specs.declared.model.value.Val.{Val}
use Rattle.base_data.specs.declared.model.value.Obj.{Obj}
use Rattle.base_data.specs.model.Graph.{IsValue}
use Rattle.marshal_heap.specs.declared.heap.kind.Kind.{Kind}
use Rattle.marshal_heap.specs.declared.heap.kind.Kind.TheVariants as kinds
use Rattle.types_spec.specs.declared.types.fault.Fault.TheVariants.{Mismatch}
use Rattle.types_spec.specs.types.Fault.{IsLexicallyBefore, value_at}
use Rattle.types_spec.specs.types.LeastFault.{IsLeastFault}
use Rattle.types_spec.specs.types.Table.{Table, table_shapes}
use Rattle.check_fault.specs.declared.near.NearPath.{NearPath}
use Rattle.check_fault.specs.declared.near.NearPath.TheVariants as ways
use Rattle.check_fault.specs.declared.near.Near.{Near}

-- The number of fields of an object of this kind. Only blocks have fields.
abbrev pub fields_of_kind : Kind → ℕ
fields_of_kind (kinds.Block tag size) = size
fields_of_kind kind = 0

-- `NoneOf n`: no path of length `n` satisfies `Is`. `IsFirstOf path`: the path satisfies `Is`, and
-- no lexicographically smaller path of equal length satisfies `Is`.
module _ (Is : List ℕ → Type 0) where
  abbrev pub NoneOf : ℕ → Type 0
  NoneOf n = (path : List ℕ) → length path ≡ n → ¬ Is path

  pub record IsFirstOf (path : List ℕ) : Type 0 where
    pub is : Is path
    pub first :
        (other : List ℕ) → length other ≡ length path → IsLexicallyBefore other path
        → ¬ Is other

-- The path leads to the value `value` and to the type with number `at`.
pub record IsThere
    (table : Table) (graph : List Obj) (v : Val) (t : ℕ) (path : List ℕ) (value : Val) (at : ℕ)
    : Type 0 where
  pub leads : value_at (table_shapes table) graph v t path ≡ Some (value, at)
  pub valid : IsValue (length graph) value
  pub node : at < length table.nodes

-- The path that a `NearPath` denotes, as a list of field indices.
abbrev pub path_in : NearPath → List ℕ
path_in ways.Root = []
path_in (ways.Field i) = i ∷ []
path_in (ways.Part i j) = i ∷ j ∷ []

-- The first fault is the type mismatch at the path of `near`, and the path leads to the value and
-- the type of `near`.
pub record IsNear (table : Table) (graph : List Obj) (root : Val) (near : Near) : Type 0 where
  pub least : IsLeastFault (table_shapes table) graph root 0 (Mismatch (path_in near.way))
  pub there : IsThere table graph root 0 (path_in near.way) near.value near.at
