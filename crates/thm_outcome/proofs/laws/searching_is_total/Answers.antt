use Rattle.thm_outcome.proofs.TotalScanLemmas.{searches_total, search_answer}
use Rattle.thm_outcome.proofs.laws.searching_is_total.Goals as goal

pub returns-clause-total : goal.returns-clause-total
returns-clause-total g c = searches_total g.S.Searches.limit_by

pub returns-clause-answers : goal.returns-clause-answers
returns-clause-answers g c = λ limit. search_answer g.S.Searches.limit_by limit
