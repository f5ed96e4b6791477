use Rattle.text_path.proofs.PathReadLemmas.{Reached}
use Rattle.text_path.proofs.path_parser.path_of.Given as goal

abbrev pub invariant-loop-position : goal.invariant-loop-position
invariant-loop-position l = Reached l.lexemes l.position l.path l.after_dot
