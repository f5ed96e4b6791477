use Rattle.std.proofs.Common.{◌≡◌, ◌++◌, map}
use Rattle.types_parse.specs.grammar.LexemeKinds.{kinds_of}
use Rattle.text_literal.specs.parser.FieldNames as specs
use Rattle.text_literal.proofs.parser.fields.names_from.Given as goal

-- The names collected so far and the names still to be collected are all names.
abbrev pub invariant-loop-left : goal.invariant-loop-left
invariant-loop-left l =
    map (λ name. name.now) l.names.items ++ specs.names_from l.nodes l.ends (kinds_of l.lexemes) l.position l.left
    ≡ specs.names_from l.nodes l.ends (kinds_of l.lexemes) l.from l.many

abbrev pub decreases-loop-left : goal.decreases-loop-left
decreases-loop-left l = l.left
