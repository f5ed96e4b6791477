use Rattle.text_print.proofs.show.ShowTableLemmas.{show_agree}
use Rattle.text_print.proofs.show.laws.tables_show_agree.Goals as goal

pub returns : goal.returns
returns c decls t table is i u at = show_agree decls t table is i u at
