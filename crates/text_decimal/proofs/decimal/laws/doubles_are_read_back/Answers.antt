use Rattle.text_decimal.proofs.decimal.ReadBackLemmas.{double_is_read_back}
use Rattle.text_decimal.proofs.decimal.laws.doubles_are_read_back.Goals as goal

pub returns : goal.returns
returns c = double_is_read_back
