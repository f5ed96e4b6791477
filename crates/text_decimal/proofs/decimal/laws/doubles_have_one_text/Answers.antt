use Rattle.text_decimal.proofs.decimal.DecimalTextLemmas.{double_text_is, is_double_text}
use Rattle.text_decimal.proofs.decimal.laws.doubles_have_one_text.Goals as goal

pub returns : goal.returns
returns c bits = (double_text_is bits, is_double_text bits)
