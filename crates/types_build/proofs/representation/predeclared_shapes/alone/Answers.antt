use Rattle.std.proofs.Common.{subst}
use Rattle.types_build.specs.representation.Kind.{IsBase}
use Rattle.types_build.proofs.representation.predeclared_shapes.alone.Goals as goal

pub returns-in-Sum : goal.returns-in-Sum
returns-in-Sum c decls types = absurd (subst IsBase c.in-Sum.is c.requires)
