use Rattle.std.specs.Prelude.{◌≡◌, slice_get}
use Rattle.types_spec.specs.types.Equal.{Equal}
use Rattle.types_spec.specs.types.Shape.{shape}
use Rattle.types_spec.specs.types.Table.{node_or_none}
use Rattle.text_print.proofs.same_type.KeptLemmas.{type_is_kept}
use Rattle.text_print.proofs.same_type.laws.the_same_has_the_same_types.Goals as goal

pub returns-clause-declared : goal.returns-clause-declared
returns-clause-declared c decls g h v w t same has = type_is_kept (shape decls) (Equal decls) g h v w t same has

pub returns-clause-table : goal.returns-clause-table
returns-clause-table c table g h v w i same has =
    type_is_kept (λ j. node_or_none (slice_get table.nodes j)) (λ j k. slice_get table.classes j ≡ slice_get table.classes k)
    g h v w i same has
