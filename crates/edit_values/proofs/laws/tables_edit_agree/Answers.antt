use Rattle.edit_values.proofs.EditAgreeLemmas.{answer_agree}
use Rattle.edit_values.proofs.laws.tables_edit_agree.Goals as goal

pub returns : goal.returns
returns c = λ decls t table is. answer_agree decls t table is
