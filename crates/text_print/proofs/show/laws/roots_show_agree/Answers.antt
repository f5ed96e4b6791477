use Rattle.text_print.proofs.show.ShowTableLemmas.{root_agree}
use Rattle.text_print.proofs.show.laws.roots_show_agree.Goals as goal

pub returns : goal.returns
returns c decls t table is = root_agree decls t table is
