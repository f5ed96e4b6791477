use Rattle.std.proofs.Common.{length, ◌-◌}
use Rattle.types_parse.specs.grammar.LexemeKinds.{kinds_of}
use Rattle.types_parse.proofs.parse.FileReading.{FileReached}
use Rattle.types_parse.proofs.parse.file_parser.parse_file.Given as goal

abbrev pub invariant-loop-position : goal.invariant-loop-position
invariant-loop-position l =
    FileReached (kinds_of l.lexemes) l.so_far.nodes.items l.so_far.frames l.phase l.brackets l.position

abbrev pub decreases-loop-position : goal.decreases-loop-position
decreases-loop-position l = length l.lexemes - l.position
