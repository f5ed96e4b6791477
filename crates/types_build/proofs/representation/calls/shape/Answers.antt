use Rattle.std.proofs.Common.{ap, ◌∙◌}
use Rattle.std.proofs.lemmas.Result.{IfOk-weaker}
use Rattle.std.proofs.lemmas.Option.{get_or_from_slice_get}
use Rattle.types_spec.specs.types.Ty.{tuple}
use Rattle.types_spec.specs.types.TypeNodes.{type_at}
use Rattle.types_spec.specs.types.Shape.{shape}
use Rattle.types_build.proofs.representation.TreesLemmas.{shape_found, shape_within}
use Rattle.types_build.proofs.representation.calls.shape.Goals as goal

pub trees_of_shape-requires : goal.trees_of_shape-requires
trees_of_shape-requires c =
    shape_within c.representation_of.new.types c.in_ok-representation.representation.shape (shape c.args.decls.now (type_at c.add.new.self c.in_ok-number.number))
    c.in_ok-representation.ensures.ok.shape

pub returns : goal.returns
returns c =
    let of = get_or_from_slice_get c.add.new.self c.in_ok-number.number c.args.t.now tuple c.in_ok-number.ensures.ok.there in
    let found = shape_found c.representation_of.new.types c.in_ok-representation.representation.shape
    (shape c.args.decls.now (type_at c.add.new.self c.in_ok-number.number)) c.in_ok-representation.ensures.ok.shape in
    IfOk-weaker c.trees_of_shape.result _ _ (λ s is. is ∙ found ∙ ap (shape c.args.decls.now) of) c.trees_of_shape.ensures
