use Rattle.std.proofs.Common.{rules, sym, subst}
use Rattle.types_lex.specs.declared.lexeme.LexFault.{LexFault}
use Rattle.types_lex.specs.LexText.{Lexes, Faults}
use Rattle.text_decimal.proofs.texts.DecimalTextLexedLemmas.{write_lexed, write_kept}
use Rattle.text_decimal.proofs.texts.texts.write_decimal_text.Goals as goal

pub returns-in-Ok : goal.returns-in-Ok
returns-in-Ok c =
    write_lexed c.args.text.now c.args.new.now.items _ c.as_slice.result.now c.write_replaced.result c.write_replaced.ensures
    (subst (Lexes c.args.text.now) (sym c.as_slice.ensures.value) c.in-Ok.ensures.lexemes)

pub returns-in-Err : goal.returns-in-Err
returns-in-Err c =
    let faulted : (fault : LexFault) × Faults c.args.text.now fault = search rules in
    write_kept c.args.text.now c.args.new.now.items _ c.write.result c.write.ensures faulted
