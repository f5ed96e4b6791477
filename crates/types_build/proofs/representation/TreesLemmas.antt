-- Lemmas about shapes over type indices, as shapes over types.
use Rattle.std.proofs.Common.{ℕ, ◌<◌, ◌≡◌, ◌∙◌, List, [], ◌∷◌, ◌++◌, length, map, Option, Some, None, refl, sym, ap, All, unwrap_or}
use Rattle.std.specs.Prelude.{slice_get, option_map, IfSome}
use Rattle.std.specs.List.{flat_map}
use Rattle.std.proofs.lemmas.List.{map-id}
use Rattle.std.proofs.lemmas.List.Elements.{All-nil, All-cons, All-head, All-tail}
use Rattle.std.proofs.lemmas.Option.{unwrap_or-slice_get}
use Rattle.types_spec.specs.declared.types.shape.Constr.{Constr}
use Rattle.types_spec.specs.declared.types.shape.PolyTag.{PolyTag}
use Rattle.types_spec.specs.declared.types.shape.ShapeOf.{ShapeOf}
use Rattle.types_spec.specs.declared.types.shape.ShapeOf.TheVariants as shapes
use Rattle.types_spec.specs.types.Ty.{Ty, tuple}
use Rattle.types_spec.specs.types.TypeNodes.{type_at}
use Rattle.types_spec.specs.types.Reached.{listed_if, named_in}
use Rattle.types_spec.proofs.types.TypeShapeLemmas.{named_in-map}
use Rattle.types_spec.specs.types.Table.{constr_with, tag_with_parts, with_parts}
use Rattle.types_build.specs.representation.Representation.{IsShapeAt}
use Rattle.types_build.proofs.representation.RepresentationLemmas.{list_twice, below_found}

-- ---- parts replaced twice, and not at all

module _ {T U V : Type 0} (f : T → U) (g : U → V) where
  blocks_twice : (blocks : List (Constr T)) → map (constr_with g) (map (constr_with f) blocks) ≡ map (constr_with (λ t. g (f t))) blocks
  blocks_twice [] = refl
  blocks_twice (block ∷ blocks) = λ k.
      record { mutable = block.mutable; fields = list_twice f g block.fields k } ∷ blocks_twice blocks k

  argument_twice : (o : Option T) → option_map g (option_map f o) ≡ option_map (λ t. g (f t)) o
  argument_twice None = refl
  argument_twice (Some t) = refl

  tags_twice : (tags : List (PolyTag T)) → map (tag_with_parts g) (map (tag_with_parts f) tags) ≡ map (tag_with_parts (λ t. g (f t))) tags
  tags_twice [] = refl
  tags_twice (tag ∷ tags) = λ k. record { hash = tag.hash; arg = argument_twice tag.arg k } ∷ tags_twice tags k

  shape_twice : (s : ShapeOf T) → with_parts g (with_parts f s) ≡ with_parts (λ t. g (f t)) s
  shape_twice (shapes.Sum n blocks) = ap (λ all. shapes.Sum n all) (blocks_twice blocks)
  shape_twice (shapes.Product mutable ts) = ap (λ all. shapes.Product mutable all) (list_twice f g ts)
  shape_twice (shapes.Poly tags) = ap (λ all. shapes.Poly all) (tags_twice tags)
  shape_twice s = refl

module _ {T : Type 0} where
  blocks_themselves : (blocks : List (Constr T)) → map (constr_with (λ (t : T). t)) blocks ≡ blocks
  blocks_themselves [] = refl
  blocks_themselves (block ∷ blocks) = λ k.
      record { mutable = block.mutable; fields = map-id block.fields k } ∷ blocks_themselves blocks k

  argument_itself : (o : Option T) → option_map (λ (t : T). t) o ≡ o
  argument_itself None = refl
  argument_itself (Some t) = refl

  tags_themselves : (tags : List (PolyTag T)) → map (tag_with_parts (λ (t : T). t)) tags ≡ tags
  tags_themselves [] = refl
  tags_themselves (tag ∷ tags) = λ k. record { hash = tag.hash; arg = argument_itself tag.arg k } ∷ tags_themselves tags k

  shape_itself : (s : ShapeOf T) → with_parts (λ (t : T). t) s ≡ s
  shape_itself (shapes.Sum n blocks) = ap (λ all. shapes.Sum n all) (blocks_themselves blocks)
  shape_itself (shapes.Product mutable ts) = ap (λ all. shapes.Product mutable all) (map-id ts)
  shape_itself (shapes.Poly tags) = ap (λ all. shapes.Poly all) (tags_themselves tags)
  shape_itself s = refl

abbrev some : Ty → Option Ty
some t = Some t

abbrev or_tuple : Option Ty → Ty
or_tuple o = unwrap_or o tuple

module _ (types : List Ty) (found : ShapeOf ℕ) (all : ShapeOf Ty) (is : IsShapeAt types all found) where
  pub shape_found : with_parts (type_at types) found ≡ all
  shape_found =
      let same : (λ (i : ℕ). type_at types i) ≡ (λ (i : ℕ). or_tuple (slice_get types i)) =
      λ k i. sym (unwrap_or-slice_get types i tuple) k in
      ap (λ (f : ℕ → Ty). with_parts f found) same
      ∙ sym (shape_twice (slice_get types) or_tuple found)
      ∙ ap (with_parts or_tuple) is
      ∙ shape_twice some or_tuple all
      ∙ shape_itself all

  pub shape_within : All (λ i. i < length types) (named_in found)
  shape_within =
      below_found types (named_in found) (named_in all)
      (sym (named_in-map (slice_get types) found) ∙ ap (λ (s : ShapeOf (Option Ty)). named_in s) is ∙ named_in-map some all)

-- ---- the type indices of the parts

module _ {X : Type 0} (P : X → Type 0) where
  both_parts : (xs ys : List X) → All P (xs ++ ys) → All P xs × All P ys
  both_parts [] ys all = (All-nil P, all)
  both_parts (x ∷ xs) ys all =
      let rest = both_parts xs ys (All-tail P x (xs ++ ys) all) in
      (All-cons P x xs (All-head P x (xs ++ ys) all) rest.0, rest.1)

  pub blocks_within : (blocks : List (Constr X)) → All P (flat_map (λ (block : Constr X). block.fields) blocks)
      → All (λ (block : Constr X). All P block.fields) blocks
  blocks_within [] all = All-nil (λ (block : Constr X). All P block.fields)
  blocks_within (block ∷ blocks) all =
      let both = both_parts block.fields (flat_map (λ (b : Constr X). b.fields) blocks) all in
      All-cons (λ (b : Constr X). All P b.fields) block blocks both.0 (blocks_within blocks both.1)

  argument_within : (o : Option X) → All P (listed_if o) → IfSome o P
  argument_within None all = tt
  argument_within (Some x) all = All-head P x [] all

  pub tags_within : (tags : List (PolyTag X)) → All P (flat_map (λ (tag : PolyTag X). listed_if tag.arg) tags)
      → All (λ (tag : PolyTag X). IfSome tag.arg P) tags
  tags_within [] all = All-nil (λ (tag : PolyTag X). IfSome tag.arg P)
  tags_within (tag ∷ tags) all =
      let both = both_parts (listed_if tag.arg) (flat_map (λ (t : PolyTag X). listed_if t.arg) tags) all in
      All-cons (λ (t : PolyTag X). IfSome t.arg P) tag tags (argument_within tag.arg both.0) (tags_within tags both.1)
