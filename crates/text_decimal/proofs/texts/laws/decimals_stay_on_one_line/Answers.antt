use Rattle.text_decimal.proofs.texts.DecimalTextFeedLemmas.{decimals_no_feed}
use Rattle.text_decimal.proofs.texts.laws.decimals_stay_on_one_line.Goals as goal

pub returns : goal.returns
returns c = decimals_no_feed
