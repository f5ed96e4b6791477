use Rattle.std.proofs.Common.{ℕ, ◌≡◌, List, [], ◌∷◌, Option, Some, refl, sym, ap, subst}
use Rattle.std.specs.Prelude.{slice_get}
use Rattle.std.proofs.lemmas.Option.{slice_get-get_or}
use Rattle.types_spec.specs.declared.types.decl.Predeclared.{Predeclared}
use Rattle.types_spec.specs.declared.types.decl.Predeclared.TheVariants as bases
use Rattle.types_spec.specs.declared.types.head.HeadOf.{HeadOf}
use Rattle.types_spec.specs.declared.types.head.HeadOf.TheVariants as heads
use Rattle.types_spec.specs.declared.types.shape.ShapeOf.TheVariants as shapes
use Rattle.types_spec.specs.types.Ty.{Ty, tuple}
use Rattle.types_spec.specs.types.TypeNodes.{type_at}
use Rattle.types_spec.specs.types.Head.{head}
use Rattle.types_spec.specs.types.Shape.{array_of, predeclared_shape}
use Rattle.types_table.proofs.store.StoreHeldLemmas.{there_kept}
use Rattle.types_build.specs.representation.Representation.{array_at, head_of_types, IsShapeAt}
use Rattle.types_build.proofs.representation.BaseLemmas.{one_argument}
use Rattle.types_build.proofs.representation.RepresentationLemmas.{head_found}
use Rattle.types_build.proofs.representation.predeclared_shapes.of_one.Goals as goal

module _ (types : List Ty) (n : ℕ) (t : Ty) (there : slice_get types n ≡ Some t) where
  array_plain : IsShapeAt types (shapes.ArrayOf t) (shapes.ArrayOf n)
  array_plain = ap (λ (o : Option Ty). shapes.ArrayOf o) there

  array_found : (h : HeadOf ℕ) → IsShapeAt types (array_of (head_of_types types h) t) (array_at h n)
  array_found (heads.Variable x) = refl
  array_found (heads.Predeclared bases.Float ts) = refl
  array_found (heads.Predeclared bases.Any ts) = ap (λ (o : Option Ty). shapes.ArrayOfAnything o) there
  array_found (heads.Predeclared bases.Int ts) = array_plain
  array_found (heads.Predeclared bases.Char ts) = array_plain
  array_found (heads.Predeclared bases.Bool ts) = array_plain
  array_found (heads.Predeclared bases.Unit ts) = array_plain
  array_found (heads.Predeclared bases.String ts) = array_plain
  array_found (heads.Predeclared bases.Bytes ts) = array_plain
  array_found (heads.Predeclared bases.Int32 ts) = array_plain
  array_found (heads.Predeclared bases.Int64 ts) = array_plain
  array_found (heads.Predeclared bases.Nativeint ts) = array_plain
  array_found (heads.Predeclared bases.Floatarray ts) = array_plain
  array_found (heads.Predeclared bases.Array ts) = array_plain
  array_found (heads.Predeclared (bases.Sum k) ts) = array_plain
  array_found (heads.Datatype name ts) = array_plain
  array_found (heads.Tuple ts) = array_plain
  array_found (heads.Variants tags) = array_plain
  array_found heads.Absent = array_plain

pub returns-in_ok-head-in-Array-clause-ok : goal.returns-in_ok-head-in-Array-clause-ok
returns-in_ok-head-in-Array-clause-ok c =
    let decls = c.args.decls.now in
    let old = c.args.types.now in
    let new = c.head_of.new.types in
    let t = type_at old c.args.part in
    let h = c.in_ok-head-in-Array.head in
    let there = there_kept old new c.args.part t c.in_ok-head-in-Array.ensures.grown
    (slice_get-get_or old c.args.part tuple c.requires.part) in
    subst (λ (b : Predeclared). IsShapeAt new (predeclared_shape decls b (t ∷ [])) c.array_at.result) (sym c.in-Array.is)
    (subst (IsShapeAt new (array_of (head decls t) t)) (sym c.array_at.ensures)
    (subst (λ (all : HeadOf Ty). IsShapeAt new (array_of all t) (array_at h c.args.part))
    (head_found new h (head decls t) c.in_ok-head-in-Array.ensures.ok) (array_found new c.args.part t there h)))

pub returns-in_default-clause-ok : goal.returns-in_default-clause-ok
returns-in_default-clause-ok c =
    one_argument c.args.decls.now c.args.types.now c.args.base (type_at c.args.types.now c.args.part) c.requires.base c.in_default.not-Array
