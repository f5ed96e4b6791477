-- The tags of a bracket, item by item, over types and over type indices.
use Rattle.std.specs.Prelude.{ℕ, ◌<◌, ◌≡◌, Bool, true, false, List, [], ◌∷◌, ◌++◌, Option, Some}
use Rattle.std.specs.Prelude.{None, length, map, fold, IfSome, if◌then◌else◌, slice_get}
use Rattle.std.specs.List.{list_any}
use Rattle.std.specs.Str.{bytes_eq}
use Rattle.std.specs.Global.{Vec}
use Rattle.types_spec.specs.declared.types.decl.Decl.{Decl}
use Rattle.types_spec.specs.declared.types.head.TagOf.{TagOf}
use Rattle.types_spec.specs.declared.types.head.HeadOf.{HeadOf}
use Rattle.types_spec.specs.types.Ty.{Ty, bracket, tag, tag_of, including}
use Rattle.types_spec.specs.types.TypeNodes.{type_at}
use Rattle.types_spec.specs.types.Head.{head, tags_in, joined, bare_tag, carrying_tag}
use Rattle.types_spec.specs.types.Table.{tag_with_part, head_with_parts}

-- ---- items

-- Tests whether the type is a bracket, extended by any number of items. Only a bracket may be
-- extended by items.
abbrev pub has_bracket : Ty → Bool
has_bracket bracket = true
has_bracket (tag whole name) = has_bracket whole
has_bracket (tag_of whole name argument) = has_bracket whole
has_bracket (including whole included) = has_bracket whole
has_bracket t = false

-- The items of a bracket from the left. Each item is given by the type that ends with the item.
abbrev pub items : Ty → List Ty
items (tag whole name) = items whole ++ tag whole name ∷ []
items (tag_of whole name argument) = items whole ++ tag_of whole name argument ∷ []
items (including whole included) = items whole ++ including whole included ∷ []
items t = []

-- The bracket without its last item, or `None` if the type does not end with an item.
abbrev pub before_item : Ty → Option Ty
before_item (tag whole name) = Some whole
before_item (tag_of whole name argument) = Some whole
before_item (including whole included) = Some whole
before_item t = None

-- The tags that the last item of a bracket contributes.
abbrev pub tags_of_item : (Ty → HeadOf Ty) → Ty → List (TagOf Ty)
tags_of_item head (tag whole name) = bare_tag name ∷ []
tags_of_item head (tag_of whole name argument) = carrying_tag name argument ∷ []
tags_of_item head (including whole included) = tags_in (head included)
tags_of_item head t = []

abbrev pub with_item : (Ty → HeadOf Ty) → List (TagOf Ty) → Ty → List (TagOf Ty)
with_item head tags t = joined tags (tags_of_item head t)

abbrev pub with_items : (Ty → HeadOf Ty) → List (TagOf Ty) → List Ty → List (TagOf Ty)
with_items head tags ts = fold (with_item head) tags ts

-- ---- over type indices

abbrev pub tags_at : List Ty → List (TagOf ℕ) → List (TagOf Ty)
tags_at types tags = map (tag_with_part (type_at types)) tags

-- The argument of the tag, if the tag has an argument, is a type index.
abbrev pub IsTagWithin : List Ty → TagOf ℕ → Type 0
IsTagWithin types item = IfSome item.argument (λ i. i < length types)

abbrev pub has_name : List (TagOf ℕ) → List ℕ → Bool
has_name tags name = list_any (λ (other : TagOf ℕ). bytes_eq other.name name) tags

-- The tags extended by one tag, unless a tag with the same name exists.
abbrev pub with_tag : List (TagOf ℕ) → List ℕ → Option ℕ → List (TagOf ℕ)
with_tag tags name argument =
    if has_name tags name then tags else tags ++ record { name = name; argument = argument } ∷ []

-- The tags extended by the tags `more`, in the order of `more`.
abbrev pub with_tags : List (TagOf ℕ) → List (TagOf ℕ) → List (TagOf ℕ)
with_tags tags more = fold (λ all (tag : TagOf ℕ). with_tag all tag.name tag.argument) tags more

-- The tag of an entry of a map from names to arguments.
abbrev pub tag_of_entry : Vec ℕ × Option ℕ → TagOf ℕ
tag_of_entry entry = record { name = entry.0.items; argument = entry.1 }

abbrev pub tags_of_entries : List (Vec ℕ × Option ℕ) → List (TagOf ℕ)
tags_of_entries entries = map tag_of_entry entries

-- ---- heads

-- The head `h` over type indices is the head of the type `t`.
abbrev pub IsHeadOf : List Decl → List Ty → Ty → HeadOf ℕ → Type 0
IsHeadOf decls types t h =
    head_with_parts (slice_get types) h ≡ head_with_parts Some (head decls t)
