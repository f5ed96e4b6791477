-- The shapes of predeclared types with a representation of their own, over type indices.
use Rattle.std.proofs.Common.{ℕ, ◌≡◌, ◌≤◌, List, [], ◌∷◌, length, map, refl, arith}
use Rattle.types_spec.specs.declared.types.decl.Predeclared.{Predeclared}
use Rattle.types_spec.specs.declared.types.decl.Predeclared.TheVariants as bases
use Rattle.types_spec.specs.declared.types.decl.Decl.{Decl}
use Rattle.types_spec.specs.declared.types.shape.ShapeOf.TheVariants as shapes
use Rattle.types_spec.specs.types.Ty.{Ty}
use Rattle.types_spec.specs.types.TypeNodes.{type_at}
use Rattle.types_spec.specs.types.Shape.{predeclared_shape}
use Rattle.types_build.specs.representation.Kind.{IsBase}
use Rattle.types_build.specs.representation.Representation.{IsShapeAt}

-- If a predeclared type is no variant, then it has a representation of its own.
pub is_base : (b : Predeclared) → ((k : ℕ) → b ≡ bases.Sum k → ⊥) → IsBase b
is_base (bases.Sum k) never = never k refl
is_base bases.Int never = tt
is_base b never = tt

module _ (decls : List Decl) (types : List Ty) where
  -- If a predeclared type other than an array has one argument, then it has no values.
  pub one_argument : (b : Predeclared) (t : Ty) → IsBase b → (b ≡ bases.Array → ⊥)
      → IsShapeAt types (predeclared_shape decls b (t ∷ [])) shapes.Variable
  one_argument (bases.Sum k) t own other = absurd own
  one_argument bases.Array t own other = absurd (other refl)
  one_argument bases.Int t own other = refl
  one_argument b t own other = refl

  two_arguments : (b : Predeclared) (t u : Ty) (ts : List Ty) → IsBase b
      → IsShapeAt types (predeclared_shape decls b (t ∷ u ∷ ts)) shapes.Variable
  two_arguments (bases.Sum k) t u ts own = absurd own
  two_arguments bases.Int t u ts own = refl
  two_arguments b t u ts own = refl

  -- If a predeclared type has several arguments, then it has no values.
  pub several_arguments : (b : Predeclared) (parts : List ℕ) → IsBase b → 2 ≤ length parts
      → IsShapeAt types (predeclared_shape decls b (map (type_at types) parts)) shapes.Variable
  several_arguments b [] own many = absurd (omega arith)
  several_arguments b (p ∷ []) own many = absurd (omega arith)
  several_arguments b (p ∷ q ∷ parts) own many =
      two_arguments b (type_at types p) (type_at types q) (map (type_at types) parts) own
