-- The types in a representation whose parts are replaced.
use Rattle.std.proofs.Common.{◌≡◌, ◌∙◌, List, [], ◌∷◌, ◌++◌, Option, Some, None, refl, ap, sym}
use Rattle.std.specs.Prelude.{map, option_map}
use Rattle.std.specs.List.{flat_map}
use Rattle.std.proofs.lemmas.List.{map-append}
use Rattle.types_spec.specs.declared.types.shape.Constr.{Constr}
use Rattle.types_spec.specs.declared.types.shape.PolyTag.{PolyTag}
use Rattle.types_spec.specs.declared.types.shape.ShapeOf.{ShapeOf}
use Rattle.types_spec.specs.declared.types.shape.ShapeOf.TheVariants as shapes
use Rattle.types_spec.specs.types.Reached.{listed_if, named_in}
use Rattle.types_spec.specs.types.Table.{constr_with, tag_with_parts, with_parts}

module _ {T U : Type 0} (f : T → U) where
  blocks-map :
      (blocks : List (Constr T))
      → flat_map (λ (c : Constr U). c.fields) (map (constr_with f) blocks)
      ≡ map f (flat_map (λ (c : Constr T). c.fields) blocks)
  blocks-map [] = refl
  blocks-map (c ∷ blocks) =
      ap (λ all. map f c.fields ++ all) (blocks-map blocks)
      ∙ sym (map-append f c.fields (flat_map (λ (c : Constr T). c.fields) blocks))

  pub listed-map : (t : Option T) → listed_if (option_map f t) ≡ map f (listed_if t)
  listed-map None = refl
  listed-map (Some t) = refl

  tags-map :
      (tags : List (PolyTag T))
      → flat_map (λ (tag : PolyTag U). listed_if tag.arg) (map (tag_with_parts f) tags)
      ≡ map f (flat_map (λ (tag : PolyTag T). listed_if tag.arg) tags)
  tags-map [] = refl
  tags-map (tag ∷ tags) =
      ap (λ all. listed_if (option_map f tag.arg) ++ all) (tags-map tags)
      ∙ ap (λ first. first ++ map f (flat_map (λ (tag : PolyTag T). listed_if tag.arg) tags))
      (listed-map tag.arg)
      ∙ sym (map-append f (listed_if tag.arg)
      (flat_map (λ (tag : PolyTag T). listed_if tag.arg) tags))

  pub named_in-map : (s : ShapeOf T) → named_in (with_parts f s) ≡ map f (named_in s)
  named_in-map (shapes.Sum constants blocks) = blocks-map blocks
  named_in-map (shapes.Product mutable ts) = refl
  named_in-map (shapes.ArrayOf t) = refl
  named_in-map (shapes.Poly tags) = tags-map tags
  named_in-map s = refl
