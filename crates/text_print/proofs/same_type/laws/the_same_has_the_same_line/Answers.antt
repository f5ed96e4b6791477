use Rattle.types_spec.specs.types.Equal.{Equal}
use Rattle.types_spec.specs.types.Shape.{shape}
use Rattle.text_print.proofs.same_type.SameTypeLineLemmas.{line_is_kept}
use Rattle.text_print.proofs.same_type.laws.the_same_has_the_same_line.Goals as goal

pub returns : goal.returns
returns c decls text_of g h v w t line same is =
    line_is_kept (shape decls) (Equal decls) text_of g h v w t line same is
