use Rattle.text_decimal.proofs.texts.DecimalTextBackLemmas.{text_is_read_back}
use Rattle.text_decimal.proofs.texts.laws.texts_are_read_back.Goals as goal

pub returns : goal.returns
returns c = text_is_read_back
