use Rattle.std.proofs.Common.{Result, subst}
use Rattle.types_lex.specs.declared.found_lexeme.FoundLexeme.{FoundLexeme}
use Rattle.types_lex.specs.declared.lexeme.LexFault.{LexFault}
use Rattle.types_lex.specs.Brief.{FindsBrief}
use Rattle.types_lex.proofs.BriefLaws.{steps_word, steps_fault}
use Rattle.types_lex.proofs.brief.word_step.Goals as goal

pub returns-in-Ok : goal.returns-in-Ok
returns-in-Ok c e is = steps_word c.in-Ok.word e (subst (λ (r : Result FoundLexeme LexFault). FindsBrief r e) c.in-Ok.is is)

pub returns-in-Err : goal.returns-in-Err
returns-in-Err c e is = steps_fault c.in-Err.fault e (subst (λ (r : Result FoundLexeme LexFault). FindsBrief r e) c.in-Err.is is)
