use Rattle.types_spec.specs.types.Names.{names_of}
use Rattle.types_spec.specs.types.Shape.{shape}
use Rattle.text_literal.specs.parser.LiteralAnswers.{shape_in, names_in}
use Rattle.text_roundtrip.proofs.literal_texts.LawLemmas.{values_are_literals}
use Rattle.text_roundtrip.proofs.literal_texts.laws.values_are_literals.Goals as goal

pub returns-clause-types : goal.returns-clause-types
returns-clause-types c decls = values_are_literals (shape decls) (names_of decls)

pub returns-clause-numbers : goal.returns-clause-numbers
returns-clause-numbers c table = values_are_literals (shape_in table) (names_in table)
