use Rattle.text_path.proofs.PathAnswerLemmas.{reports}
use Rattle.text_path.proofs.path_parser.read_path.Goals as goal

pub returns-clause-only : goal.returns-clause-only
returns-clause-only c = reports c.args.text.now c.read.result c.read.ensures.path c.read.ensures.fault
