use Rattle.std.proofs.Common.{Ok, sym, ap, ◌∙◌}
use Rattle.types_lex.specs.declared.found_lexeme.FoundLexeme.{FoundLexeme}
use Rattle.types_lex.proofs.WordLaws.{reserved_word}
use Rattle.types_lex.proofs.name_lexer.word.Goals as goal

pub returns-in-Some : goal.returns-in-Some
returns-in-Some c = ap (λ (w : FoundLexeme). Ok w) (reserved_word c.args.text.now c.in-Some.keyword c.name_len-len.result c.name_len-len.ensures (sym c.keyword_of.ensures ∙ c.in-Some.is))
