use Rattle.edit_values.proofs.GraftAnswers.{graft_answer_agree}
use Rattle.edit_values.proofs.laws.tables_graft_agree.Goals as goal

pub returns : goal.returns
returns c = λ decls t table is. graft_answer_agree decls t table is
