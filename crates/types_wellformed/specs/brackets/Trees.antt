-- The items of a bracket as written, and the same items with type numbers as arguments.
use Rattle.std.specs.Prelude.{ℕ, ◌≤◌, ◌≡◌, List, Option, Some, IfSome, map, slice_get}
use Rattle.types_spec.specs.declared.types.decl.Decl.{Decl}
use Rattle.types_spec.specs.declared.types.head.TagOf.{TagOf}
use Rattle.types_spec.specs.types.Ty.{Ty}
use Rattle.types_spec.specs.types.Occurrence.{PlacedItem}
use Rattle.types_spec.specs.types.Reached.{AreDistinct}
use Rattle.types_spec.specs.types.Scope.{tags_of_item, HasTags, ConflictsAt, HashesAt}
use Rattle.types_spec.specs.types.Table.{tag_with_part}
use Rattle.types_resolve.specs.scope.Least.{IsLeast}
use Rattle.types_wellformed.specs.declared.brackets.tag_item.TagItem.{TagItem}
use Rattle.types_wellformed.specs.declared.brackets.tag_names.Collision.{Collision}
use Rattle.types_wellformed.specs.brackets.Collisions.{position_of}
use Rattle.types_wellformed.specs.brackets.TagItems.{HaveOneHash}

-- ---- items by numbers

-- The lexeme and the tags of an item, in which types replace the type numbers of arguments.
abbrev pub typed_item : List Ty → TagItem → ℕ × List (TagOf (Option Ty))
typed_item types item = (item.position, map (tag_with_part (slice_get types)) item.tags)

-- The lexeme of an item of the text, and the tags that the item contributes.
abbrev pub written_item : List Decl → PlacedItem → ℕ × List (TagOf (Option Ty))
written_item decls item = (item.0, map (tag_with_part Some) (tags_of_item decls item.1))

-- The items `items` represent the written items `all`. Corresponding items have the same lexeme and
-- the same tags, and the numbers of arguments are numbers of distinct types.
pub record AreItems (types : List Ty) (decls : List Decl) (items : List TagItem)
    (all : List PlacedItem)
    : Type 0 where
  pub distinct : AreDistinct types
  pub same : map (typed_item types) items ≡ map (written_item decls) all

-- ---- the results of the rules

-- Two tags with the names `one_name` and `other_name` have the same hash at lexeme `k`. `HashesAt`
-- states that some two names exist for which `NamesHashAt` holds.
abbrev pub NamesHashAt : List Decl → List PlacedItem → ℕ → List ℕ → List ℕ → Type 0
NamesHashAt decls items k one_name other_name =
    (i j : ℕ) × (one other : TagOf Ty) × HasTags decls items k i j one other
    × (i ≤ j) × HaveOneHash one other one_name other_name

-- `best` is the least conflict in every list of written items that `items` represents.
abbrev pub IsLeastConflictOf : List TagItem → Option ℕ → Type 0
IsLeastConflictOf items best =
    (types : List Ty) (decls : List Decl) (all : List PlacedItem) → AreItems types decls items all
    → IsLeast (ConflictsAt decls all) best

-- `found` is the least lexeme with equal hashes, and two names at the lexeme, in every list of
-- written items that `items` represents.
pub record IsLeastHashOf (items : List TagItem) (found : Option Collision) : Type 0 where
  pub least :
      (types : List Ty) (decls : List Decl) (all : List PlacedItem) → AreItems types decls items all
      → IsLeast (HashesAt decls all) (position_of found)
  pub names :
      (types : List Ty) (decls : List Decl) (all : List PlacedItem) → AreItems types decls items all
      → IfSome found (λ c. NamesHashAt decls all c.position c.one.now c.other.now)
