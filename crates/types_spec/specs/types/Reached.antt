-- The types that a type reaches, in the order of their numbers, and the limit on their number. The
-- order and the limit are this project's own.
use Rattle.std.specs.Prelude.{ℕ, ◌<◌, ◌≡◌, ◌⊎◌, List, [], ◌∷◌, ◌++◌, length, Option, Some, None}
use Rattle.std.specs.Prelude.{slice_get, Contains, Bool, true, false}
use Rattle.std.specs.List.{flat_map}
use Rattle.types_spec.specs.declared.types.decl.Predeclared.TheVariants as bases
use Rattle.types_spec.specs.declared.types.decl.Decl.{Decl}
use Rattle.types_spec.specs.declared.types.head.TagOf.{TagOf}
use Rattle.types_spec.specs.declared.types.head.HeadOf.{HeadOf}
use Rattle.types_spec.specs.declared.types.head.HeadOf.TheVariants as heads
use Rattle.types_spec.specs.declared.types.shape.Constr.{Constr}
use Rattle.types_spec.specs.declared.types.shape.PolyTag.{PolyTag}
use Rattle.types_spec.specs.declared.types.shape.ShapeOf.{ShapeOf}
use Rattle.types_spec.specs.declared.types.shape.ShapeOf.TheVariants as shapes
use Rattle.types_spec.specs.types.Ty.{Ty}
use Rattle.types_spec.specs.types.Head.{head}
use Rattle.types_spec.specs.types.Shape.{shape}

-- ---- one step

abbrev pub listed_if : {T : Type 0} → Option T → List T
listed_if None = []
listed_if (Some t) = t ∷ []

-- The types in a representation: field by field for each constructor in turn, or tag by tag.
abbrev pub named_in : {T : Type 0} → ShapeOf T → List T
named_in {T} (shapes.Sum constants blocks) = flat_map (λ (constr : Constr T). constr.fields) blocks
named_in (shapes.Product mutable ts) = ts
named_in (shapes.ArrayOf t) = t ∷ []
named_in (shapes.ArrayOfAnything t) = t ∷ []
named_in {T} (shapes.Poly tags) = flat_map (λ (tag : PolyTag T). listed_if tag.arg) tags
named_in shape = []

-- The arguments, components and tag arguments of a head.
abbrev pub parts_of : {T : Type 0} → HeadOf T → List T
parts_of (heads.Predeclared base ts) = ts
parts_of (heads.Datatype name ts) = ts
parts_of (heads.Tuple ts) = ts
parts_of {T} (heads.Variants tags) = flat_map (λ (tag : TagOf T). listed_if tag.argument) tags
parts_of head = []

-- The types that `t` reaches directly: the types in its representation, and then the parts of its
-- head.
abbrev pub reached_from : List Decl → Ty → List Ty
reached_from decls t = named_in (shape decls t) ++ parts_of (head decls t)

-- Tests whether a head is the head of the wildcard `_`.
abbrev pub is_any_head : {T : Type 0} → HeadOf T → Bool
is_any_head (heads.Predeclared bases.Any ts) = true
is_any_head head = false

-- None of `types` is a wildcard `_`.
abbrev pub NoneIsWildcard : List Decl → List Ty → Type 0
NoneIsWildcard decls types = (t : Ty) → Contains types t → is_any_head (head decls t) ≡ false

-- ---- all steps

-- The list `others` is the second argument without repetitions and without types that are in
-- `seen`.
abbrev pub IsWithoutRepeats : List Ty → List Ty → List Ty → Type 0
IsWithoutRepeats seen [] others = others ≡ []
IsWithoutRepeats seen (t ∷ ts) others =
    (Contains seen t × IsWithoutRepeats seen ts others)
    ⊎ ((¬ Contains seen t) × (rest : List Ty) × (others ≡ t ∷ rest)
    × IsWithoutRepeats (seen ++ t ∷ []) ts rest)

-- An earlier type of the list, with an index below `k`, directly reaches the type `u`.
abbrev pub IsFromEarlier : List Decl → List Ty → ℕ → Ty → Type 0
IsFromEarlier decls types k u =
    (j : ℕ) × (w : Ty) × (j < k) × (slice_get types j ≡ Some w) × Contains (reached_from decls w) u

-- The list `types` contains `t`, followed by the types that each type of the list reaches directly.
-- The list has the order of first occurrence.
pub record IsReached (decls : List Decl) (t : Ty) (types : List Ty) : Type 0 where
  pub in_order : IsWithoutRepeats [] (t ∷ flat_map (reached_from decls) types) types
  -- Each type except the first is reached from an earlier type of the list. Lists whose types only
  -- reach one another do not satisfy the condition.
  pub from_earlier :
      (k : ℕ) (u : Ty) → 0 < k → slice_get types k ≡ Some u → IsFromEarlier decls types k u

-- ---- too many

-- No type occurs twice in the list.
abbrev pub AreDistinct : List Ty → Type 0
AreDistinct types =
    (i j : ℕ) (u : Ty) → slice_get types i ≡ Some u → slice_get types j ≡ Some u → i ≡ j

-- There are more than 65,536 distinct types, each of which is `t` or is reached from an earlier
-- type.
pub record ReachesTooMany (decls : List Decl) (t : Ty) : Type 0 where
  pub types : List Ty
  pub many : 65536 < length types
  pub distinct : AreDistinct types
  pub reached :
      (k : ℕ) (u : Ty) → slice_get types k ≡ Some u → (u ≡ t) ⊎ IsFromEarlier decls types k u
