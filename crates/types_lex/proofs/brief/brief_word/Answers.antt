use Rattle.std.proofs.Common.{sym, subst, Ok, ◌∙◌}
use Rattle.types_lex.specs.Lexeme.{LexemeForm}
use Rattle.types_lex.specs.Lexer.{found}
use Rattle.types_lex.specs.Brief.{FindsBrief}
use Rattle.types_lex.proofs.WordLaws.{reserved_word, keyword_found}
use Rattle.types_lex.proofs.BriefLaws.{none_word, same_brief}
use Rattle.types_lex.proofs.brief.brief_word.Goals as goal

pub returns-in-None : goal.returns-in-None
returns-in-None c =
    subst (λ (f : LexemeForm). FindsBrief c.brief_cased.result (Ok (found f)))
    (sym (none_word c.args.text.now c.name_len-len.result c.name_len-len.ensures (sym c.keyword_of.ensures ∙ c.in-None.is))) c.brief_cased.ensures

pub returns-in-Some : goal.returns-in-Some
returns-in-Some c =
    same_brief (keyword_found c.in-Some.keyword c.name_len-len.result) _
    (reserved_word c.args.text.now c.in-Some.keyword c.name_len-len.result c.name_len-len.ensures (sym c.keyword_of.ensures ∙ c.in-Some.is))
