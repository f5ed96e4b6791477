-- Objects at the types at which they were referenced after their first type.
use Rattle.std.specs.Prelude.{ℕ, ◌≡◌, ◌⊎◌, List, [], ◌∷◌, ◌++◌, map, Some, slice_get, Contains}
use Rattle.base_data.specs.declared.model.value.Val.TheVariants as vals
use Rattle.types_spec.specs.types.Table.{Table, table_shapes}
use Rattle.types_spec.specs.types.Typing.{IsListed}
use Rattle.types_theory.specs.typing.StepLaws.{AreApart, key_of}
use Rattle.check_heap.specs.declared.scan.second_types.SecondTypes.{SecondTypes}
use Rattle.check_heap.specs.scan.Classed.{Has}

-- The pairs in the order in which they were added.
abbrev pub noted_in : SecondTypes → List (ℕ × ℕ)
noted_in seconds = seconds.listed

-- `known` contains exactly the classes of the pairs. No object occurs twice at the same class.
pub record AreSeconds (table : Table) (seconds : SecondTypes) : Type 0 where
  pub known : (o t c : ℕ) → Contains (noted_in seconds) (o, t) → slice_get table.classes t ≡ Some c
      → Has seconds.known o c
  pub there :
      (o c : ℕ) → Has seconds.known o c
      → (t : ℕ) × Contains (noted_in seconds) (o, t) × (slice_get table.classes t ≡ Some c)
  pub apart : AreApart (map (key_of table) (noted_in seconds))

-- If the object was present at an equal type, nothing changes. If not, the pair of the object and
-- the type is appended.
abbrev pub IsNoting : Table → List (ℕ × ℕ) → List (ℕ × ℕ) → ℕ → ℕ → Type 0
IsNoting table old new o t =
    (IsListed (table_shapes table) old (vals.Ref o) t × (new ≡ old))
    ⊎ ((¬ IsListed (table_shapes table) old (vals.Ref o) t) × (new ≡ old ++ (o, t) ∷ []))
