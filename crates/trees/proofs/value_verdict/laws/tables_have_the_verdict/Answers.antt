use Rattle.trees.proofs.value_verdict.TreeVerdictTableLemmas.{verdict_forth, verdict_back}
use Rattle.trees.proofs.value_verdict.laws.tables_have_the_verdict.Goals as goal

pub returns : goal.returns
returns c decls t table is graph root verdict = (
  verdict_forth decls t table is graph root verdict,
  verdict_back decls t table is graph root verdict,
)
