use Rattle.text_decimal.proofs.decimal_readback.DecimalReadbackApartLemmas.{texts_are_read_back}
use Rattle.text_decimal.proofs.decimal_readback.laws.texts_with_decimals_are_read_back.Goals as goal

pub returns : goal.returns
returns c = texts_are_read_back
