use Rattle.types_lex.proofs.PartLaws.{answers_list, answers_fault, spans_within}
use Rattle.types_lex.proofs.lexer.tokens.Goals as goal

pub returns-clause-only_lexemes : goal.returns-clause-only_lexemes
returns-clause-only_lexemes c = answers_list c.args.text.now c.scan.result c.scan.ensures.lexemes c.scan.ensures.fault

pub returns-clause-only_fault : goal.returns-clause-only_fault
returns-clause-only_fault c = answers_fault c.args.text.now c.scan.result c.scan.ensures.lexemes c.scan.ensures.fault

pub returns-clause-spans : goal.returns-clause-spans
returns-clause-spans c = spans_within c.args.text.now c.scan.result c.scan.ensures.lexemes
