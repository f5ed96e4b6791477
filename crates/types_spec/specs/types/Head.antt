-- The head of a type (the OCaml manual, "Polymorphic variant types"). Abbreviations at the head are
-- expanded until no abbreviation is left at the head. The tags of each included type's head stand
-- at the position of the inclusion.
use Rattle.std.specs.Prelude.{ℕ, zero, suc, ◌*◌, ◌^◌, Bool, not, List, [], ◌∷◌, ◌++◌, length}
use Rattle.std.specs.Prelude.{filter}
use Rattle.std.specs.Prelude.{Option, Some, None}
use Rattle.std.specs.List.{list_any}
use Rattle.std.specs.Str.{bytes_eq}
use Rattle.types_spec.specs.declared.types.decl.Predeclared.{Predeclared}
use Rattle.types_spec.specs.declared.types.decl.Decl.{Decl}
use Rattle.types_spec.specs.declared.types.head.TagOf.{TagOf}
use Rattle.types_spec.specs.declared.types.head.HeadOf.{HeadOf}
use Rattle.types_spec.specs.declared.types.head.HeadOf.TheVariants as heads
use Rattle.types_spec.specs.types.Ty.{Ty, variable, named, tuple, bracket, part, tag, tag_of}
use Rattle.types_spec.specs.types.Ty.{including}
use Rattle.types_spec.specs.types.Ty.{depth}
use Rattle.types_spec.specs.types.Declarations.{predeclared, unfolded}

-- ---- tags

abbrev pub has_tag : List (TagOf Ty) → List ℕ → Bool
has_tag tags name = list_any (λ (other : TagOf Ty). bytes_eq other.name name) tags

-- The tags of two lists. If a tag occurs twice, the first occurrence stays.
abbrev pub joined : List (TagOf Ty) → List (TagOf Ty) → List (TagOf Ty)
joined tags more = tags ++ filter (λ (tag : TagOf Ty). not (has_tag tags tag.name)) more

abbrev pub with_tags : HeadOf Ty → List (TagOf Ty) → HeadOf Ty
with_tags (heads.Variants tags) more = heads.Variants (joined tags more)
with_tags other more = heads.Absent

abbrev pub tags_in : HeadOf Ty → List (TagOf Ty)
tags_in (heads.Variants tags) = tags
tags_in other = []

abbrev pub bare_tag : List ℕ → TagOf Ty
bare_tag name = record { name = name; argument = None }

abbrev pub carrying_tag : List ℕ → Ty → TagOf Ty
carrying_tag name argument = record { name = name; argument = Some argument }

-- ---- the head

abbrev pub head_meant : Option Predeclared → List ℕ → HeadOf Ty
head_meant (Some base) name = heads.Predeclared base []
head_meant None name = heads.Datatype name []

-- The head of a name without arguments.
abbrev pub name_head : List ℕ → HeadOf Ty
name_head name = head_meant (predeclared name) name

abbrev pub with_part : HeadOf Ty → Ty → HeadOf Ty
with_part (heads.Predeclared base ts) t = heads.Predeclared base (ts ++ t ∷ [])
with_part (heads.Datatype name ts) t = heads.Datatype name (ts ++ t ∷ [])
with_part (heads.Tuple ts) t = heads.Tuple (ts ++ t ∷ [])
with_part other t = heads.Absent

-- The head of a type that has no abbreviation at its head. `head` gives the heads of included
-- types.
abbrev pub plain_head : (Ty → HeadOf Ty) → Ty → HeadOf Ty
plain_head head (variable name) = heads.Variable name
plain_head head (named name) = name_head name
plain_head head tuple = heads.Tuple []
plain_head head bracket = heads.Variants []
plain_head head (part whole added) = with_part (plain_head head whole) added
plain_head head (tag whole name) = with_tags (plain_head head whole) (bare_tag name ∷ [])
plain_head head (tag_of whole name argument) =
    with_tags (plain_head head whole) (carrying_tag name argument ∷ [])
plain_head head (including whole included) =
    with_tags (plain_head head whole) (tags_in (head included))

-- The head of the type's expansion. If the type has no expansion, the plain head of the type.
abbrev pub head_by : (Ty → HeadOf Ty) → Ty → Option Ty → HeadOf Ty
head_by head t (Some other) = head other
head_by head t None = plain_head head t

-- The head of a type, computed with fewer than `n` nested expansions. If `n` is too small, the
-- result is `Absent`.
abbrev pub head_within : List Decl → ℕ → Ty → HeadOf Ty
head_within decls zero t = heads.Absent
head_within decls (suc n) t = head_by (head_within decls n) t (unfolded decls t)

-- A sufficient number of nested expansions for the head of `t`, if no abbreviation expands to
-- itself and no declared type is deeper than 200.
abbrev pub enough : List Decl → Ty → ℕ
enough decls t = depth t * 202 ^ suc (length decls)

-- The head of `t`. If an abbreviation is at the head of `t`, the result is the head of the
-- expansion of `t`. If no abbreviation is at the head of `t`, the result is the plain head of `t`.
-- Over accepted declarations, the two properties determine `head`.
unfoldable pub head : List Decl → Ty → HeadOf Ty
head decls t = head_within decls (enough decls t) t
