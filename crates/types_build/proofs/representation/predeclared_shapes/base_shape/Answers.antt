use Rattle.std.proofs.Common.{arith}
use Rattle.types_build.proofs.representation.BaseLemmas.{several_arguments}
use Rattle.types_build.proofs.representation.predeclared_shapes.base_shape.Goals as goal

pub returns-in_default-clause-ok : goal.returns-in_default-clause-ok
returns-in_default-clause-ok c =
    several_arguments c.args.decls.now c.args.types.now c.args.base c.args.parts.now c.requires.base (omega arith)
