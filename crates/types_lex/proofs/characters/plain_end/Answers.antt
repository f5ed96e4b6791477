use Rattle.std.proofs.Common.{arith, drop}
use Rattle.std.proofs.lemmas.List.{take_rest, length-drop}
use Rattle.std.proofs.lemmas.List.Sums.{prefix_len-le-length}
use Rattle.types_lex.specs.Lexeme.{is_plain}
use Rattle.types_lex.proofs.characters.plain_end.Goals as goal

pub overflow_add-result : goal.overflow_add-result
overflow_add-result c =
    omega (arith, c.requires, rw take_rest at c.plain_len.ensures, prefix_len-le-length is_plain (drop c.args.at c.args.text.now), length-drop c.args.at c.args.text.now)
