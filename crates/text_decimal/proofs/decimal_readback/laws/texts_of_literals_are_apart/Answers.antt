use Rattle.text_decimal.proofs.decimal_readback.DecimalReadbackApartLemmas.{literals_are_apart}
use Rattle.text_decimal.proofs.decimal_readback.laws.texts_of_literals_are_apart.Goals as goal

pub returns : goal.returns
returns c = literals_are_apart
