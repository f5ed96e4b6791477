use Rattle.std.proofs.Common.{arith}
use Rattle.std.proofs.lemmas.Float.{not_nan_f64_bits}
use Rattle.text_decimal.proofs.decimal.hint.hint.Goals as goal

pub float_from_bits-double : goal.float_from_bits-double
float_from_bits-double c = not_nan_f64_bits c.args.size.bits (omega (arith, c.args.size.some.1))
