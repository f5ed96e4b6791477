use Rattle.text_path.proofs.PathLineLemmas.{LineReached}
use Rattle.text_path.proofs.script_line_parser.known.Given as goal

abbrev pub invariant-loop-position : goal.invariant-loop-position
invariant-loop-position l = LineReached l.lexemes l.position l.prefix
