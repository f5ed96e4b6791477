use Rattle.text_literal.proofs.table_agreement.LiteralTableLemmas.{tables_read_agree}
use Rattle.text_literal.proofs.table_agreement.laws.tables_read_agree.Goals as goal

pub returns : goal.returns
returns c = tables_read_agree
