use Rattle.std.proofs.Common.{length, ◌-◌}
use Rattle.types_parse.specs.grammar.LexemeKinds.{kinds_of}
use Rattle.types_parse.proofs.parse.TypeReading.{TypeReached}
use Rattle.types_parse.proofs.parse.type_parser.parse_type.Given as goal

abbrev pub invariant-loop-position : goal.invariant-loop-position
invariant-loop-position l =
    TypeReached (kinds_of l.lexemes) l.so_far.nodes.items l.so_far.frames l.phase l.brackets l.position

abbrev pub decreases-loop-position : goal.decreases-loop-position
decreases-loop-position l = length l.lexemes - l.position
