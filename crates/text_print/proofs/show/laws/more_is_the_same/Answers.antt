use Rattle.types_spec.specs.types.Names.{names_of}
use Rattle.types_spec.specs.types.Shape.{shape}
use Rattle.text_print.specs.show.TableShapes.{shape_in, names_in}
use Rattle.text_print.proofs.show.FuelLemmas.{more_same}
use Rattle.text_print.proofs.show.laws.more_is_the_same.Goals as goal

pub returns-clause-types : goal.returns-clause-types
returns-clause-types c decls graph v t more = more_same (shape decls) (names_of decls) graph more v t

pub returns-clause-numbers : goal.returns-clause-numbers
returns-clause-numbers c table graph v i more = more_same (shape_in table) (names_in table) graph more v i
