use Rattle.edit_values.proofs.EditLineLemmas.{line_answer_agree}
use Rattle.edit_values.proofs.laws.tables_answer_lines_agree.Goals as goal

pub returns : goal.returns
returns c = λ decls t table is. line_answer_agree decls t table is
