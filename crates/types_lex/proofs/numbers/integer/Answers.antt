use Rattle.std.proofs.Common.{arith, take}
use Rattle.std.specs.Char.{is_ascii_digit}
use Rattle.std.specs.List.{prefix_len}
use Rattle.std.proofs.lemmas.List.Sums.{prefix_len-le-length}
use Rattle.types_lex.proofs.NumberLaws.{list_all-hexdigit, prefix_passes}
use Rattle.types_lex.proofs.numbers.integer.Goals as goal

pub split_at-requires : goal.split_at-requires
split_at-requires c = omega (arith, c.digits_len-count.ensures, prefix_len-le-length is_ascii_digit c.args.text.now)

pub number_in-requires : goal.number_in-requires
number_in-requires c = rw (c.split_at.ensures.front, c.digits_len-count.ensures) (list_all-hexdigit (take (prefix_len is_ascii_digit c.args.text.now) c.args.text.now) (prefix_passes is_ascii_digit c.args.text.now))
