-- Tags without conflicts in any bracket: each name occurs with one argument, and each hash with one
-- name.
use Rattle.std.specs.Prelude.{ℕ, ◌<◌, ◌≡◌, ◌≢◌, Bool, ◌&&◌, true, false, List, [], ◌∷◌, Some}
use Rattle.std.specs.Prelude.{IfSome, length, slice_get, Contains}
use Rattle.types_spec.specs.tag_hash.TagHash.{tag_hash}
use Rattle.types_spec.specs.declared.types.decl.Decl.{Decl}
use Rattle.types_spec.specs.declared.types.head.TagOf.{TagOf}
use Rattle.types_spec.specs.types.Ty.{Ty, variable, named, tuple, bracket, part, tag, tag_of}
use Rattle.types_spec.specs.types.Ty.{including}
use Rattle.types_spec.specs.types.TypeNodes.{type_at}
use Rattle.types_spec.specs.types.Declarations.{abbreviated}
use Rattle.types_spec.specs.types.Head.{bare_tag, carrying_tag}
use Rattle.types_spec.specs.types.Scope.{tags_of_item}
use Rattle.types_spec.specs.types.Table.{tag_with_part}
use Rattle.types_wellformed.specs.declared.brackets.tag_item.TagItem.{TagItem}
use Rattle.types_wellformed.specs.brackets.TagItems.{ConflictsIn, CollidesIn}

-- ---- types without variables

abbrev pub is_closed : Ty → Bool
is_closed (variable x) = false
is_closed (named name) = true
is_closed tuple = true
is_closed bracket = true
is_closed (part whole added) = is_closed whole && is_closed added
is_closed (tag whole x) = is_closed whole
is_closed (tag_of whole x argument) = is_closed whole && is_closed argument
is_closed (including whole included) = is_closed whole && is_closed included

-- Entry `j` of the list is true if type `j` contains no variable, and false if type `j` contains a
-- variable. The list may be shorter than the list of types.
abbrev pub ReportsClosed : List Ty → List Bool → Type 0
ReportsClosed types known =
    (j : ℕ) → j < length known → slice_get known j ≡ Some (is_closed (type_at types j))

-- ---- the tags that are written

-- The predicate `P` holds for each tag in the type outside tag arguments.
abbrev pub EachTag : (TagOf Ty → Type 0) → Ty → Type 0
EachTag P (variable x) = Unit {0}
EachTag P (named name) = Unit {0}
EachTag P tuple = Unit {0}
EachTag P bracket = Unit {0}
EachTag P (part whole added) = EachTag P whole × EachTag P added
EachTag P (tag whole x) = EachTag P whole × P (bare_tag x)
EachTag P (tag_of whole x argument) = EachTag P whole × P (carrying_tag x argument)
EachTag P (including whole included) = EachTag P whole × EachTag P included

-- An item that contributes only the tag `number`.
abbrev pub alone : TagOf ℕ → TagItem
alone number = record { position = 0; tags = number ∷ [] }

-- The tag contains no variable, and the list `items` has an item with only the tag. The argument of
-- the listed tag is a type number.
pub record IsListed (types : List Ty) (items : List TagItem) (tag : TagOf Ty) : Type 0 where
  pub index : ℕ
  pub number : TagOf ℕ
  pub there : slice_get items index ≡ Some (alone number)
  pub is : tag_with_part (slice_get types) number ≡ tag_with_part (λ (t : Ty). Some t) tag
  pub closed : IfSome tag.argument (λ a. is_closed a ≡ true)

-- All tags of the first `count` types are listed (`IsListed`).
abbrev pub AreListed : List Ty → List TagItem → ℕ → Type 0
AreListed types items count =
    (j : ℕ) → j < count → EachTag (IsListed types items) (type_at types j)

-- If the declaration is an abbreviation, then the abbreviated type is one of `types`.
abbrev pub HasBody : List Ty → Decl → Type 0
HasBody types decl =
    (t : Ty) → abbreviated decl.body ≡ Some t → (i : ℕ) × (slice_get types i ≡ Some t)

-- ---- tags without conflicts

-- No two of `items` have one tag name with two arguments, or two tag names with one hash.
pub record NoneConflict (items : List TagItem) : Type 0 where
  pub arguments : (k : ℕ) → ¬ ConflictsIn items k
  pub hashes : (k : ℕ) → ¬ CollidesIn items k

pub record AreApart (one other : TagOf Ty) : Type 0 where
  pub arguments : one.name ≡ other.name → ¬ (one.argument ≢ other.argument)
  pub hashes : one.name ≢ other.name → ¬ (tag_hash one.name ≡ tag_hash other.name)

-- No two tags that `types` contribute conflict.
abbrev pub StandApart : List Decl → List Ty → Type 0
StandApart decls types =
    (i j : ℕ) (one other : TagOf Ty) → i < length types → j < length types
    → Contains (tags_of_item decls (type_at types i)) one
    → Contains (tags_of_item decls (type_at types j)) other
    → AreApart one other
