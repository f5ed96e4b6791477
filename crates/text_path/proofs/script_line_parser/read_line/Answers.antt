use Rattle.text_path.proofs.PathLineLemmas.{lexed_line, lexed_line_fault, refused_line}
use Rattle.text_path.proofs.script_line_parser.read_line.Goals as goal

pub returns-in-Ok-clause-line : goal.returns-in-Ok-clause-line
returns-in-Ok-clause-line c =
    lexed_line c.args.number c.args.text.now c.in-Ok.lexemes.items c.in-Ok.ensures.lexemes c.read_lexemes.result c.read_lexemes.ensures.line

pub returns-in-Ok-clause-fault : goal.returns-in-Ok-clause-fault
returns-in-Ok-clause-fault c =
    lexed_line_fault c.args.number c.args.text.now c.in-Ok.lexemes.items c.in-Ok.ensures.lexemes c.read_lexemes.result c.read_lexemes.ensures.fault

pub returns-in-Err-clause-fault : goal.returns-in-Err-clause-fault
returns-in-Err-clause-fault c = rw c.line_fault.ensures (refused_line c.args.number c.args.text.now c.in-Err.fault c.in-Err.ensures.fault)
