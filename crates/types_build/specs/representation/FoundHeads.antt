-- Heads that were found before. A part of a found head is a type index, or a position in the list
-- of type indices.
use Rattle.std.specs.Prelude.{ℕ, ◌<◌, ◌≡◌, Bool, true, false, List, length, map, get_or, All, Some}
use Rattle.std.specs.Prelude.{slice_get}
use Rattle.types_spec.specs.declared.types.decl.Decl.{Decl}
use Rattle.types_spec.specs.declared.types.head.TagOf.{TagOf}
use Rattle.types_spec.specs.declared.types.head.HeadOf.{HeadOf}
use Rattle.types_spec.specs.declared.types.head.HeadOf.TheVariants as heads
use Rattle.types_spec.specs.types.Ty.{Ty}
use Rattle.types_spec.specs.types.TypeNodes.{type_at}
use Rattle.types_spec.specs.types.Head.{head, tags_in}
use Rattle.types_spec.specs.types.Table.{tag_with_part}

-- The type index of a part. If the flag is true, the part `q` is a position in `numbers`. If the
-- flag is false, the part `q` is the type index.
abbrev pub part_number : Bool → List ℕ → ℕ → ℕ
part_number true numbers q = get_or numbers q 0
part_number false numbers q = q

-- The part `q` has a type index.
abbrev pub IsLocation : Bool → List ℕ → ℕ → Type 0
IsLocation true numbers q = q < length numbers
IsLocation false numbers q = Unit {0}

-- The list of types in which a part is an index.
abbrev pub part_types : Bool → List Ty → List ℕ → List Ty
part_types true types numbers = map (type_at types) numbers
part_types false types numbers = types

-- The tags `tags`, with type indices as arguments, are the tags of the type `t`.
abbrev pub AreTagsOf : List Decl → List Ty → Ty → List (TagOf ℕ) → Type 0
AreTagsOf decls types t tags =
    map (tag_with_part (slice_get types)) tags
    ≡ map (tag_with_part (λ (u : Ty). Some u)) (tags_in (head decls t))

-- All `numbers` are type indices. If `found` has tags at a location, the tags are the tags of the
-- type at the same location of `numbers`.
pub record AreFound (decls : List Decl) (types : List Ty) (by_position : Bool) (numbers : List ℕ)
    (found : List (HeadOf ℕ)) : Type 0 where
  pub within : All (λ i. i < length types) numbers
  pub are :
      (location number : ℕ) (tags : List (TagOf ℕ)) → slice_get numbers location ≡ Some number
      → slice_get found location ≡ Some (heads.Variants tags)
      → AreTagsOf decls (part_types by_position types numbers) (type_at types number) tags
