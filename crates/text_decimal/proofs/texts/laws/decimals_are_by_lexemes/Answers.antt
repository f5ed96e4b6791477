use Rattle.text_decimal.proofs.texts.DecimalTextLexedLemmas.{decimal_text_lexed, decimal_text_faults}
use Rattle.text_decimal.proofs.texts.laws.decimals_are_by_lexemes.Goals as goal

pub returns : goal.returns
returns c text = (decimal_text_lexed text, decimal_text_faults text)
