use Rattle.types_spec.specs.types.Names.{names_of}
use Rattle.types_spec.specs.types.Shape.{shape}
use Rattle.text_print.proofs.same_type.SameTypeTextLemmas.{text_is_kept}
use Rattle.text_print.proofs.same_type.laws.the_same_has_the_same_text.Goals as goal

pub returns-clause-declared : goal.returns-clause-declared
returns-clause-declared c decls g h v w t same = text_is_kept (shape decls) (names_of decls) g h v w t same

pub returns-clause-table : goal.returns-clause-table
returns-clause-table c shapes names g h v w i same = text_is_kept shapes names g h v w i same
