use Rattle.std.proofs.Common.{sym, ap, arith}
use Rattle.std.proofs.lemmas.List.{drop_all}
use Rattle.types_lex.specs.Lexemes.{lexeme_in}
use Rattle.types_lex.specs.Lexer.{step_at}
use Rattle.types_lex.proofs.lexemes.kind_from.Goals as goal

pub returns-then-position-text : goal.returns-then-position-text
unfolding step_at
returns-then-position-text c =
    sym (ap (λ t. (lexeme_in c.args.position (step_at t)).kind) (drop_all c.args.position c.args.text.now (omega (arith, c.if-position-text.true))))
