use Rattle.std.proofs.Common.{sym, ◌∙◌, arith}
use Rattle.types_lex.proofs.NumberLaws.{double_found}
use Rattle.types_lex.proofs.numbers.double.Goals as goal

pub returns : goal.returns
returns c = double_found c.args.text.now c.number_in.result (omega arith) (sym c.all_hexadecimal.ensures ∙ c.if-not-all_hexadecimal.false) c.number_in.ensures
