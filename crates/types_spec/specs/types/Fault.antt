-- The faults of a value at a type, by paths.
use Rattle.std.specs.Prelude.{ℕ, ◌<◌, ◌≡◌, ◌==◌, ◌⊎◌, List, [], ◌∷◌, length, Option, Some, None}
use Rattle.std.specs.Prelude.{option_map, option_and_then, find, IsSomeAnd}
use Rattle.base_data.specs.declared.model.value.Val.{Val}
use Rattle.base_data.specs.declared.model.value.Val.TheVariants as vals
use Rattle.base_data.specs.declared.model.value.Obj.{Obj}
use Rattle.types_spec.specs.declared.types.fault.Fault.{Fault}
use Rattle.types_spec.specs.declared.types.fault.Fault.TheVariants.{Mismatch, Conflict}
use Rattle.types_spec.specs.types.Shapes.{Shapes}
use Rattle.types_spec.specs.types.Typing.{field_at}

-- Field `i` of the object to which the value `v` refers.
abbrev pub field_of : List Obj → Val → ℕ → Option Val
field_of graph (vals.Int z) i = None
field_of graph (vals.Atom tag) i = None
field_of graph (vals.Ref o) i = field_at graph o i

-- The type at which `needs` requires field `i`.
abbrev pub type_of_field : {T : Type 0} → List (ℕ × T) → ℕ → Option T
type_of_field needs i = option_map (λ need. need.1) (find (λ need. need.0 == i) needs)

-- One step from a value at a type: the value of field `i`, and the type at which field `i` is
-- required.
abbrev pub step : {T : Type 0} → Shapes T → List Obj → Val → T → ℕ → Option (Val × T)
step shapes graph v t i =
    option_and_then (λ w. option_map (λ u. (w, u)) (type_of_field (shapes.needs graph v t) i))
    (field_of graph v i)

-- The value at the end of a path and the type required there, or `None` if the path does not exist.
abbrev pub value_at : {T : Type 0} → Shapes T → List Obj → Val → T → List ℕ → Option (Val × T)
value_at shapes graph v t [] = Some (v, t)
value_at shapes graph v t (i ∷ path) =
    option_and_then (λ next. value_at shapes graph next.0 next.1 path) (step shapes graph v t i)

-- Lexicographic order of two lists: at the first difference, the list with the smaller number comes
-- first. A proper prefix is not before the longer list.
abbrev pub IsLexicallyBefore : List ℕ → List ℕ → Type 0
IsLexicallyBefore [] second = ⊥
IsLexicallyBefore (i ∷ first) [] = ⊥
IsLexicallyBefore (i ∷ first) (j ∷ second) = (i < j) ⊎ ((i ≡ j) × IsLexicallyBefore first second)

-- The order of paths: by length, then lexicographically.
abbrev pub IsBefore : List ℕ → List ℕ → Type 0
IsBefore first second =
    (length first < length second)
    ⊎ ((length first ≡ length second) × IsLexicallyBefore first second)

-- A type mismatch at a path: the value at the path does not match the type required there.
abbrev pub IsMismatch : {T : Type 0} → Shapes T → List Obj → Val → T → List ℕ → Type 0
IsMismatch shapes graph v t path =
    IsSomeAnd (value_at shapes graph v t path)
    (λ position. ¬ shapes.fits graph position.0 position.1)

-- An aliasing conflict: the two paths lead to one object at unequal types, and the object is
-- mutable at one of the two types.
pub record IsConflict {T : Type 0} (shapes : Shapes T) (graph : List Obj) (v : Val) (t : T)
    (first second : List ℕ) : Type 0 where
  pub object : ℕ
  pub one : T
  pub other : T
  pub before : IsBefore first second
  pub at_first : value_at shapes graph v t first ≡ Some (vals.Ref object, one)
  pub at_second : value_at shapes graph v t second ≡ Some (vals.Ref object, other)
  pub unequal : ¬ shapes.equal one other
  pub mutable : shapes.mutable graph object one ⊎ shapes.mutable graph object other

-- The fault is a type mismatch or an aliasing conflict of the value `v` at the type `t`.
abbrev pub IsFault : {T : Type 0} → Shapes T → List Obj → Val → T → Fault → Type 0
IsFault shapes graph v t (Mismatch path) = IsMismatch shapes graph v t path
IsFault shapes graph v t (Conflict first second) = IsConflict shapes graph v t first second
