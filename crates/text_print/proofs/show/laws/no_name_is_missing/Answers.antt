use Rattle.text_print.proofs.show.NamedLemmas.{has_its_names}
use Rattle.text_print.proofs.show.ShowPartLemmas.{parts_have_names}
use Rattle.text_print.proofs.show.laws.no_name_is_missing.Goals as goal

pub returns-clause-fitting : goal.returns-clause-fitting
returns-clause-fitting c decls graph v t fits = has_its_names decls graph v t fits

pub returns-clause-parts : goal.returns-clause-parts
returns-clause-parts c decls t types well sound reached graph v has path w u leads =
    parts_have_names decls t types well sound reached graph v has path w u leads
