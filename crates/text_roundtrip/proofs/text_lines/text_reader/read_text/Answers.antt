use Rattle.text_roundtrip.proofs.text_lines.TextLineLemmas.{gives_answer, gives_back}
use Rattle.text_roundtrip.proofs.text_lines.text_reader.read_text.Goals as goal

pub returns-clause-only : goal.returns-clause-only
returns-clause-only c answer is = gives_answer c.args.table.now c.args.line.now c.read.new.heap c.read.result c.read.ensures answer is

pub returns-clause-back : goal.returns-clause-back
returns-clause-back c tree again = gives_back c.args.table.now c.args.line.now c.read.new.heap c.read.result c.read.ensures tree again
