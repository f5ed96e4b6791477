-- Discovered types, by their numbers in a store. Each discovered type has an index.
use Rattle.std.specs.Prelude.{ℕ, ◌≡◌, List, map, option_map, Option, Some, nat_eq, slice_get}
use Rattle.std.specs.List.{flat_map}
use Rattle.indexmap.specs.IndexSet.{insert_all}
use Rattle.types_spec.specs.declared.types.head.TagOf.{TagOf}
use Rattle.types_spec.specs.declared.types.head.HeadOf.{HeadOf}
use Rattle.types_spec.specs.declared.types.shape.Constr.{Constr}
use Rattle.types_spec.specs.declared.types.shape.PolyTag.{PolyTag}
use Rattle.types_spec.specs.declared.types.shape.ShapeOf.{ShapeOf}
use Rattle.types_spec.specs.types.Ty.{Ty}
use Rattle.types_spec.specs.types.Reached.{listed_if, named_in, parts_of}
use Rattle.types_spec.specs.types.Table.{with_parts, head_with_parts, constr_with, tag_with_parts}
use Rattle.types_spec.specs.types.Table.{tag_with_part}

-- For each index in `met`, `of_position` of the index equals `of_number` of the store number at the
-- index.
pub record SayTheSame (met : List ℕ) (of_position of_number : ℕ → Option Ty) : Type 0 where
  pub at : (position number : ℕ) → slice_get met position ≡ Some number
      → of_position position ≡ of_number number

-- `made` is `given` with indices in `after` instead of store numbers. The list `after` is `before`,
-- followed by the new numbers in `given`. The types in `made`, by index, are the types in `given`,
-- by number.
pub record IsPlaced {A B : Type 0} (numbers : A → List ℕ) (saying : (ℕ → Option Ty) → A → B)
    (before after : List ℕ) (given made : A) : Type 0 where
  pub met : after ≡ insert_all nat_eq before (numbers given)
  pub same :
      (of_position of_number : ℕ → Option Ty) → SayTheSame after of_position of_number
      → saying of_position made ≡ saying of_number given

-- ---- lists, shapes and heads with indices
abbrev pub AreNumbersPlaced : List ℕ → List ℕ → List ℕ → List ℕ → Type 0
AreNumbersPlaced =
    IsPlaced {A = List ℕ} {B = List (Option Ty)} (λ ns. ns) (λ says ns. map says ns)

abbrev pub IsOptionPlaced : List ℕ → List ℕ → Option ℕ → Option ℕ → Type 0
IsOptionPlaced =
    IsPlaced {A = Option ℕ} {B = Option (Option Ty)} (λ n. listed_if n)
    (λ says n. option_map says n)

abbrev pub fields_in : Constr ℕ → List ℕ
fields_in constr = constr.fields

abbrev pub AreBlocksPlaced : List ℕ → List ℕ → List (Constr ℕ) → List (Constr ℕ) → Type 0
AreBlocksPlaced =
    IsPlaced {A = List (Constr ℕ)} {B = List (Constr (Option Ty))}
    (λ blocks. flat_map fields_in blocks)
    (λ says blocks. map (constr_with says) blocks)

abbrev pub argument_in : PolyTag ℕ → List ℕ
argument_in tag = listed_if tag.arg

abbrev pub IsTagPlaced : List ℕ → List ℕ → PolyTag ℕ → PolyTag ℕ → Type 0
IsTagPlaced =
    IsPlaced {A = PolyTag ℕ} {B = PolyTag (Option Ty)} argument_in
    (λ says tag. tag_with_parts says tag)

abbrev pub AreTagsPlaced : List ℕ → List ℕ → List (PolyTag ℕ) → List (PolyTag ℕ) → Type 0
AreTagsPlaced =
    IsPlaced {A = List (PolyTag ℕ)} {B = List (PolyTag (Option Ty))}
    (λ tags. flat_map argument_in tags)
    (λ says tags. map (tag_with_parts says) tags)

abbrev pub IsShapePlaced : List ℕ → List ℕ → ShapeOf ℕ → ShapeOf ℕ → Type 0
IsShapePlaced =
    IsPlaced {A = ShapeOf ℕ} {B = ShapeOf (Option Ty)} (λ shape. named_in shape)
    (λ says shape. with_parts says shape)

abbrev pub argument_of : TagOf ℕ → List ℕ
argument_of tag = listed_if tag.argument

abbrev pub AreHeadTagsPlaced : List ℕ → List ℕ → List (TagOf ℕ) → List (TagOf ℕ) → Type 0
AreHeadTagsPlaced =
    IsPlaced {A = List (TagOf ℕ)} {B = List (TagOf (Option Ty))} (λ tags. flat_map argument_of tags)
    (λ says tags. map (tag_with_part says) tags)

abbrev pub IsHeadPlaced : List ℕ → List ℕ → HeadOf ℕ → HeadOf ℕ → Type 0
IsHeadPlaced =
    IsPlaced {A = HeadOf ℕ} {B = HeadOf (Option Ty)} (λ head. parts_of head)
    (λ says head. head_with_parts says head)
