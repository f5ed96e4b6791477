use Rattle.text_path.proofs.PathReadLemmas.{lexed_path, lexed_fault, refused}
use Rattle.text_path.proofs.path_parser.read.Goals as goal

pub returns-in-Ok-clause-path : goal.returns-in-Ok-clause-path
returns-in-Ok-clause-path c =
    lexed_path c.args.text.now c.as_slice.result.now (rw c.as_slice.ensures.value c.in-Ok.ensures.lexemes)
    c.path_of.result c.path_of.ensures.path

pub returns-in-Ok-clause-fault : goal.returns-in-Ok-clause-fault
returns-in-Ok-clause-fault c =
    lexed_fault c.args.text.now c.as_slice.result.now (rw c.as_slice.ensures.value c.in-Ok.ensures.lexemes)
    c.path_of.result c.path_of.ensures.fault

pub returns-in-Err-clause-fault : goal.returns-in-Err-clause-fault
returns-in-Err-clause-fault c = rw c.lexer_fault.ensures (refused c.args.text.now c.in-Err.fault c.in-Err.ensures.fault)
