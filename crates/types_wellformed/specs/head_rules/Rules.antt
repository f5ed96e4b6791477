-- The rules that depend on heads, over numbered items of brackets and over declarations.
use Rattle.std.specs.Prelude.{ℕ, ◌<◌, ◌≡◌, true, List, [], Option, Some, None, IsSome}
use Rattle.std.specs.Prelude.{option_and_then, Contains, IfSome, All, length, map, slice_get}
use Rattle.types_spec.specs.declared.types.decl.Decl.{Decl}
use Rattle.types_spec.specs.declared.types.head.HeadOf.{HeadOf}
use Rattle.types_spec.specs.declared.types.head.HeadOf.TheVariants as heads
use Rattle.types_spec.specs.declared.types.head.TagOf.{TagOf}
use Rattle.types_spec.specs.types.Ty.{Ty, including, name_of}
use Rattle.types_spec.specs.types.Declarations.{declaration_of, abbreviated}
use Rattle.types_spec.specs.types.TypeNodes.{type_at}
use Rattle.types_spec.specs.types.WellFormed.{AreVariants}
use Rattle.types_spec.specs.types.Head.{head}
use Rattle.types_spec.specs.types.Occurrence.{Placed, PlacedItem}
use Rattle.types_spec.specs.types.Reached.{AreDistinct}
use Rattle.types_spec.specs.types.Scope.{Rule, not_variant, tag_clash, hash_clash}
use Rattle.types_spec.specs.types.Scope.{ConflictsAt, HashesAt, IsFlatThroughGroup, is_mixed_body}
use Rattle.types_resolve.specs.scope.Least.{IsLeast}
use Rattle.types_wellformed.specs.declared.brackets.tag_item.TagItem.{TagItem}
use Rattle.types_wellformed.specs.declared.brackets.tag_names.Collision.{Collision}
use Rattle.types_wellformed.specs.brackets.Collisions.{position_of}
use Rattle.types_wellformed.specs.brackets.TagItems.{ConflictsIn, CollideIn, CollidesIn}
use Rattle.types_wellformed.specs.brackets.Trees.{typed_item, written_item, NamesHashAt}
use Rattle.types_wellformed.specs.declared.head_rules.item.NumberedItem.{NumberedItem}

-- ---- numbered items

-- The tags of a head whose parts are type numbers.
abbrev pub tags_of_head : HeadOf ℕ → List (TagOf ℕ)
tags_of_head (heads.Variants tags) = tags
tags_of_head other = []

abbrev pub IsWithin : List Ty → NumberedItem → Type 0
IsWithin types i = i.number < length types

-- The number of each item is the number of a type in the store.
abbrev pub AreWithin : List Ty → List NumberedItem → Type 0
AreWithin types items = All (IsWithin types) items

abbrev pub AreAllWithin : List Ty → List (List NumberedItem) → Type 0
AreAllWithin types brackets = All (AreWithin types) brackets

-- The item that a numbered item represents.
abbrev pub item_at : List Ty → NumberedItem → PlacedItem
item_at types i = (i.position, type_at types i.number)

abbrev pub items_at : List Ty → List NumberedItem → List PlacedItem
items_at types items = map (item_at types) items

abbrev pub brackets_at : List Ty → List (List NumberedItem) → List (List PlacedItem)
brackets_at types brackets = map (items_at types) brackets

-- One element of `xs` breaks a rule at lexeme `k`.
abbrev pub SomeBreaks : {X : Type 0} → List X → (X → ℕ → Type 0) → ℕ → Type 0
SomeBreaks {X} xs Breaks k = (x : X) × Contains xs x × Breaks x k

-- ---- included types

-- The item includes a type that is not a polymorphic variant.
abbrev pub IncludesOther : List Decl → Ty → Type 0
IncludesOther decls (including whole t) = ¬ AreVariants (head decls t)
IncludesOther decls t = ⊥

-- The item at lexeme `k` includes a type that is not a polymorphic variant.
abbrev pub IncludesOtherAt : List Decl → List Ty → NumberedItem → ℕ → Type 0
IncludesOtherAt decls types i k = (i.position ≡ k) × IncludesOther decls (type_at types i.number)

abbrev pub ItemsInclude : List Decl → List Ty → List NumberedItem → ℕ → Type 0
ItemsInclude decls types items k = SomeBreaks items (IncludesOtherAt decls types) k

-- ---- tags

-- The items in `tagged` represent the items of the text's brackets: corresponding items have the
-- same tags. The numbers of arguments are numbers of distinct types.
pub record AreTagged
    (types : List Ty) (decls : List Decl) (tagged : List (List TagItem))
    (all : List (List PlacedItem))
    : Type 0 where
  pub distinct : AreDistinct types
  pub same : map (map (typed_item types)) tagged ≡ map (map (written_item decls)) all

-- In some bracket, two tags with the names `one` and `other` have the same hash at lexeme `k`.
abbrev pub CollideAmong : List (List TagItem) → ℕ → List ℕ → List ℕ → Type 0
CollideAmong tagged k one other =
    (items : List TagItem) × Contains tagged items × CollideIn items k one other

-- If `found` is `None`, then no two tags of a bracket have the same hash. If `found` is a
-- collision, then its two tags have the same hash, and no two tags of a bracket have the same hash
-- at a lesser lexeme.
pub record IsLeastAmong (tagged : List (List TagItem)) (found : Option Collision) : Type 0 where
  pub least : IsLeast (SomeBreaks tagged CollidesIn) (position_of found)
  pub names : IfSome found (λ c. CollideAmong tagged c.position c.one.now c.other.now)

-- A bracket of numbered items breaks a rule on tags at lexeme `k`.
abbrev pub TagsBreak : List (List TagItem) → Rule → ℕ → Type 0
TagsBreak tagged tag_clash k = SomeBreaks tagged ConflictsIn k
TagsBreak tagged hash_clash k = SomeBreaks tagged CollidesIn k
TagsBreak tagged rule k = ⊥

-- ---- brackets

-- At lexeme `k`, an item includes a type that is not a polymorphic variant, or tags of the items
-- conflict.
abbrev pub ItemsBreak : List Decl → List PlacedItem → Rule → ℕ → Type 0
ItemsBreak decls items not_variant k =
    (i : PlacedItem) × Contains items i × ((i.0 ≡ k) × IncludesOther decls i.1)
ItemsBreak decls items tag_clash k = ConflictsAt decls items k
ItemsBreak decls items hash_clash k = HashesAt decls items k
ItemsBreak decls items rule k = ⊥

-- Some bracket breaks a rule at lexeme `k`.
abbrev pub BracketsBreak : List Decl → List (List PlacedItem) → Rule → ℕ → Type 0
BracketsBreak decls all rule k =
    (items : List PlacedItem) × Contains all items × ItemsBreak decls items rule k

abbrev pub BracketsHash : List Decl → List (List PlacedItem) → ℕ → List ℕ → List ℕ → Type 0
BracketsHash decls all k one other =
    (items : List PlacedItem) × Contains all items × NamesHashAt decls items k one other

-- ---- records

-- The optional declaration exists and is an abbreviation of the group `group`.
abbrev pub IsOwnDecl : ℕ → Option Decl → Type 0
IsOwnDecl group None = ⊥
IsOwnDecl group (Some d) = IsSome (abbreviated d.body) × (d.group ≡ group)

-- An abbreviation of the group `group` is at the head of the type `t`.
abbrev pub IsOwn : List Decl → ℕ → Ty → Type 0
IsOwn decls group t = IsOwnDecl group (option_and_then (declaration_of decls) (name_of t))

-- The declaration is a record that is flat through its own group.
abbrev pub IsFlatDecl : List Decl → Decl → Type 0
IsFlatDecl decls d = IsFlatThroughGroup decls d.group d.body

-- The declaration is a mixed record.
abbrev pub IsMixedDecl : List Decl → Decl → Type 0
IsMixedDecl decls d = is_mixed_body decls d.body ≡ true

-- Declaration `i` breaks a rule on declarations, and the declared name is at lexeme `k`.
abbrev pub DeclBreaksAt : (Decl → Type 0) → List Decl → List Placed → ℕ → ℕ → Type 0
DeclBreaksAt Breaks decls names i k =
    (d : Decl) × (p : Placed) × (slice_get decls i ≡ Some d) × (slice_get names i ≡ Some p)
    × (p.0 ≡ k) × Breaks d

-- Some declaration breaks a rule on declarations, and the declared name is at lexeme `k`.
abbrev pub SomeDeclBreaks : (Decl → Type 0) → List Decl → List Placed → ℕ → Type 0
SomeDeclBreaks Breaks decls names k =
    (i : ℕ) × (i < length decls) × DeclBreaksAt Breaks decls names i k
