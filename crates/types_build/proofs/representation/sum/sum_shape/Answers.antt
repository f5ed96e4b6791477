use Rattle.std.proofs.Common.{ℕ, List, Option, Some, IfOk, map, subst, refl}
use Rattle.types_spec.specs.declared.types.shape.ShapeOf.TheVariants as shapes
use Rattle.types_spec.specs.types.TypeNodes.{type_at}
use Rattle.types_spec.specs.types.Predeclared.{Sum, name_at, sum_shape}
use Rattle.types_spec.specs.types.PredeclaredCode.{sum_row_of}
use Rattle.types_build.specs.representation.Representation.{IsShapeAt}
use Rattle.types_build.proofs.representation.sum.sum_shape.Goals as goal

pub returns-in-Some-clause-ok : goal.returns-in-Some-clause-ok
returns-in-Some-clause-ok c =
    let ts = map (type_at c.args.types.now) c.args.parts.now in
    let new = c.row_shape.new.types in
    subst (λ (known : Option Sum). IfOk c.row_shape.result (IsShapeAt new (sum_shape known (name_at c.args.number) ts))) c.in-Some.ensures
    (subst (λ (n : List ℕ). IfOk c.row_shape.result (IsShapeAt new (sum_shape (Some (sum_row_of c.in-Some.row)) n ts))) c.name.ensures
    c.row_shape.ensures.ok)

pub returns-in-None-clause-ok : goal.returns-in-None-clause-ok
returns-in-None-clause-ok c =
    let types = c.args.types.now in
    let ts = map (type_at types) c.args.parts.now in
    subst (λ (known : Option Sum). IsShapeAt types (sum_shape known (name_at c.args.number) ts) shapes.Variable) c.in-None.ensures refl
