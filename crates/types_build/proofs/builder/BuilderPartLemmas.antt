-- Lemmas about the store numbers in shapes and heads, and the types that the numbers denote.
use Rattle.std.proofs.Common.{ℕ, ◌<◌, ◌≡◌, ◌∙◌, List, [], ◌∷◌, length, map, Option, Some, refl, sym, ap}
use Rattle.std.specs.Prelude.{slice_get}
use Rattle.std.proofs.lemmas.List.Elements.{All-nil, All-cons}
use Rattle.std.proofs.lemmas.Option.{slice_get_within, get_or_from_slice_get}
use Rattle.types_spec.specs.declared.types.shape.ShapeOf.{ShapeOf}
use Rattle.types_spec.specs.declared.types.head.HeadOf.{HeadOf}
use Rattle.types_spec.specs.types.Ty.{Ty, tuple}
use Rattle.types_spec.specs.types.Reached.{named_in, parts_of}
use Rattle.types_spec.proofs.types.TypeShapeLemmas.{named_in-map}
use Rattle.types_spec.specs.types.Table.{with_parts, head_with_parts}
use Rattle.types_theory.proofs.equality.HeadMapLemmas.{parts_of-map}
use Rattle.types_build.specs.builder.Listed.{types_at, AreWithin}

-- ---- numbers of types

-- `numbers` are the store numbers of the types `all`.
pub record AreNumbers (types : List Ty) (numbers : List ℕ) (all : List Ty) : Type 0 where
  pub within : AreWithin types numbers
  pub are : types_at types numbers ≡ all

pub are_numbers :
    (types : List Ty) (numbers : List ℕ) (all : List Ty)
    → map (slice_get types) numbers ≡ map (λ (t : Ty). Some t) all → AreNumbers types numbers all
are_numbers types [] [] same = record { within = All-nil (λ i. i < length types); are = refl }
are_numbers types [] (t ∷ all) same = absurd (no_more (Some t) (map (λ (u : Ty). Some u) all) same) where
  no_more : (x : Option Ty) (xs : List (Option Ty)) → [] ≡ x ∷ xs → ⊥
  no_more x xs never = cc
are_numbers types (n ∷ numbers) [] same = absurd (no_less (slice_get types n) (map (slice_get types) numbers) same) where
  no_less : (x : Option Ty) (xs : List (Option Ty)) → x ∷ xs ≡ [] → ⊥
  no_less x xs never = cc
are_numbers types (n ∷ numbers) (t ∷ all) same =
    let both = parts (slice_get types n) (map (slice_get types) numbers) (Some t) (map (λ (u : Ty). Some u) all) same in
    let rest = are_numbers types numbers all both.1 in record {
      within = All-cons (λ i. i < length types) n numbers (slice_get_within types n t both.0) rest.within;
      are = ap (λ (u : Ty). u ∷ types_at types numbers) (get_or_from_slice_get types n t tuple both.0)
          ∙ ap (λ (us : List Ty). t ∷ us) rest.are;
    } where
      parts : (x : Option Ty) (xs : List (Option Ty)) (y : Option Ty) (ys : List (Option Ty))
          → x ∷ xs ≡ y ∷ ys → (x ≡ y) × (xs ≡ ys)
      parts x xs y ys e = (cc, cc)

-- The numbers in the shape of a type are the numbers of the types in the shape.
pub shape_numbers :
    (types : List Ty) (numbered : ShapeOf ℕ) (s : ShapeOf Ty)
    → with_parts (slice_get types) numbered ≡ with_parts (λ (t : Ty). Some t) s
    → AreNumbers types (named_in numbered) (named_in s)
shape_numbers types numbered s same =
    are_numbers types (named_in numbered) (named_in s)
    (sym (named_in-map (slice_get types) numbered) ∙ ap (λ (x : ShapeOf (Option Ty)). named_in x) same
    ∙ named_in-map (λ (t : Ty). Some t) s)

pub head_numbers :
    (types : List Ty) (numbered : HeadOf ℕ) (h : HeadOf Ty)
    → head_with_parts (slice_get types) numbered ≡ head_with_parts (λ (t : Ty). Some t) h
    → AreNumbers types (parts_of numbered) (parts_of h)
head_numbers types numbered h same =
    are_numbers types (parts_of numbered) (parts_of h)
    (sym (parts_of-map (slice_get types) numbered) ∙ ap (λ (x : HeadOf (Option Ty)). parts_of x) same
    ∙ parts_of-map (λ (t : Ty). Some t) h)
