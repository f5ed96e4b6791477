-- The invariant of a search over objects at types, after the search has seen all paths up to some
-- path. Each step of the check keeps the invariant. The invariant is this project's own.
use Rattle.std.specs.Prelude.{ℕ, ◌≡◌, ◌⊎◌, List, [], ◌∷◌, ◌++◌, Some, Contains}
use Rattle.base_data.specs.declared.model.value.Val.{Val}
use Rattle.base_data.specs.declared.model.value.Val.TheVariants as vals
use Rattle.base_data.specs.declared.model.value.Obj.{Obj}
use Rattle.types_spec.specs.types.Shapes.{Shapes}
use Rattle.types_spec.specs.types.Fault.{IsBefore, field_of, value_at}

-- An object at a type, and the path by which the search reached the object at the type.
pub record Entry (T : Type 0) : Type 0 where
  pub path : List ℕ
  pub object : ℕ
  pub type : T

-- If the value is a reference, then its object has an entry at an equal type, and `path` is not
-- before the entry's path.
abbrev pub IsEntered : {T : Type 0} → Shapes T → List (Entry T) → Val → T → List ℕ → Type 0
IsEntered shapes entries (vals.Int z) t path = Unit {0}
IsEntered shapes entries (vals.Atom tag) t path = Unit {0}
IsEntered {T} shapes entries (vals.Ref o) t path =
    (entry : Entry T) × Contains entries entry × (entry.object ≡ o)
    × shapes.equal t entry.type × (¬ IsBefore path entry.path)

-- The state of the search. `Seen` holds for the inspected paths. If `Seen` holds for a path, then
-- `Seen` holds for all paths before the path.
pub record IsSearched {T : Type 0} (shapes : Shapes T) (graph : List Obj) (root : Val) (t : T)
    (entries : List (Entry T)) (Seen : List ℕ → Type 0) : Type 0 where
  pub down : (path other : List ℕ) → Seen path → ¬ IsBefore path other → Seen other
  pub root_fits : shapes.fits graph root t
  pub root_entered : IsEntered shapes entries root t []
  -- The path of each entry leads to the entry's object and type.
  pub leads :
      (entry : Entry T) → Contains entries entry
      → value_at shapes graph root t entry.path ≡ Some (vals.Ref entry.object, entry.type)
  -- If the path to a required field of an entry was seen, then the field was tested and entered.
  pub tested :
      (entry : Entry T) (i : ℕ) (a : T) (w : Val) → Contains entries entry
      → Contains (shapes.needs graph (vals.Ref entry.object) entry.type) (i, a)
      → field_of graph (vals.Ref entry.object) i ≡ Some w → Seen (entry.path ++ i ∷ [])
      → shapes.fits graph w a × IsEntered shapes entries w a (entry.path ++ i ∷ [])

-- Two entries of one object are in conflict: their types are unequal, and the object is mutable at
-- one of the two types. The entry `one` has the lesser path.
pub record AreConflicting {T : Type 0} (shapes : Shapes T) (graph : List Obj)
    (entries : List (Entry T)) (one other : Entry T) : Type 0 where
  pub first : Contains entries one
  pub second : Contains entries other
  pub same : one.object ≡ other.object
  pub before : IsBefore one.path other.path
  pub unequal : ¬ shapes.equal one.type other.type
  pub mutable :
      shapes.mutable graph one.object one.type ⊎ shapes.mutable graph one.object other.type

-- Among all pairs of conflicting entries, `one` and `other` have the least second path. Among the
-- pairs with the least second path, `one` and `other` have the least first path.
pub record AreLeastConflicting {T : Type 0} (shapes : Shapes T) (graph : List Obj)
    (entries : List (Entry T)) (one other : Entry T) : Type 0 where
  pub conflicting : AreConflicting shapes graph entries one other
  pub least :
      (a b : Entry T) → AreConflicting shapes graph entries a b
      → ¬ (IsBefore b.path other.path ⊎ ((b.path ≡ other.path) × IsBefore a.path one.path))
