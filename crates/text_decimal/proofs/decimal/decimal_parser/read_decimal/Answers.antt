use Rattle.std.proofs.Common.{T, not, sym, subst}
use lib.Ieee.{is_nan}
use Rattle.text_decimal.proofs.decimal.DecimalReadLemmas.{round_number}
use Rattle.text_decimal.proofs.decimal.decimal_parser.read_decimal.Goals as goal

pub float_to_bits-result : goal.float_to_bits-result
float_to_bits-result c = subst (λ x. T (not (is_nan x))) (sym c.to_float-double.ensures) (round_number _ _ _ _)
