use Rattle.types_build.proofs.representation.BaseLemmas.{is_base}
use Rattle.types_build.proofs.representation.predeclared_shapes.predeclared_shape.Goals as goal

pub base_shape-requires-clause-base : goal.base_shape-requires-clause-base
base_shape-requires-clause-base c = is_base c.args.base c.in_default.not-Sum
