-- The scope rules on tags, given the tags that each item of a bracket contributes.
use Rattle.std.specs.Prelude.{ℕ, ◌<◌, ◌≤◌, ◌≡◌, ◌≢◌, List, Some, slice_get, Contains}
use Rattle.types_spec.specs.tag_hash.TagHash.{tag_hash}
use Rattle.types_spec.specs.declared.types.head.TagOf.{TagOf}
use Rattle.types_wellformed.specs.declared.brackets.tag_item.TagItem.{TagItem}

-- Item `i` contributes the tag `one`, and item `j`, at lexeme `k`, contributes the tag `other`.
pub record Brings (items : List TagItem) (k i j : ℕ) (one other : TagOf ℕ) : Type 0 where
  pub first : TagItem
  pub second : TagItem
  pub first_is : slice_get items i ≡ Some first
  pub second_is : slice_get items j ≡ Some second
  pub placed : second.position ≡ k
  pub one_there : Contains first.tags one
  pub other_there : Contains second.tags other

-- An item at lexeme `k` contributes a tag that an earlier item contributes with another argument.
abbrev pub ConflictsIn : List TagItem → ℕ → Type 0
ConflictsIn items k =
    (i j : ℕ) × (one other : TagOf ℕ) × Brings items k i j one other
    × (i < j) × (one.name ≡ other.name) × (one.argument ≢ other.argument)

-- Two tags with the different names `one_name` and `other_name` have the same hash.
pub record HaveOneHash {T : Type 0} (one other : TagOf T) (one_name other_name : List ℕ)
    : Type 0 where
  pub one_named : one.name ≡ one_name
  pub other_named : other.name ≡ other_name
  pub unlike : one_name ≢ other_name
  pub agree : tag_hash one_name ≡ tag_hash other_name

-- An item at lexeme `k` contributes a tag with the name `other_name`. The same item or an earlier
-- item contributes a tag with the name `one_name` and the same hash.
abbrev pub CollideIn : List TagItem → ℕ → List ℕ → List ℕ → Type 0
CollideIn items k one_name other_name =
    (i j : ℕ) × (one other : TagOf ℕ) × Brings items k i j one other
    × (i ≤ j) × HaveOneHash one other one_name other_name

-- At lexeme `k`, an item contributes a tag whose hash another tag has.
abbrev pub CollidesIn : List TagItem → ℕ → Type 0
CollidesIn items k = (one other : List ℕ) × CollideIn items k one other
